use Rattle.std.proofs.Common.{◌∙◌, ap, sym}
use Rattle.bpf_steps.specs.State.{State, depth}
use Rattle.bpf_whynot.specs.declared.standing.Standing.{Standing}
use Rattle.bpf_whynot.proofs.Turning.{edit_here, not_here, slots_differ, step_here}
use Rattle.bpf_whynot.proofs.turn.decided_it.Goals as goal

pub returns-then-deep-own : goal.returns-then-deep-own
returns-then-deep-own c = λ r y here step stood knows.
    not_here c.args.hunt.now.aim r y (λ same. c.if-deep-own.true (c.depth-deep.ensures ∙ ap depth here ∙ same))

pub returns-then-is_step : goal.returns-then-is_step
returns-then-is_step c = λ r y here step stood knows.
    step_here _ c.args.hunt.now.aim r y (sym (ap depth here) ∙ sym c.depth-deep.ensures ∙ c.if-deep-own.false) (sym step ∙ c.if-is_step.true)
    (rw here at (c.decides.ensures c.args.hunt.now.aim.slot y (rw here knows.0)))

pub returns-else-is_step : goal.returns-else-is_step
returns-else-is_step c = λ r y here step stood knows.
    edit_here _ c.args.hunt.now.aim r y (sym (ap depth here) ∙ sym c.depth-deep.ensures ∙ c.if-deep-own.false) (sym step ∙ c.if-is_step.false)
    (slots_differ c.args.after.slot c.from.result y.pc r.before.pc (ap (λ (s : Standing). s.slot) stood) (c.from.ensures ∙ c.pc.ensures ∙ ap (λ (x : State). x.pc) here))
