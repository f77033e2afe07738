use Rattle.std.proofs.Common.{◌∙◌, sym, arith}
use Rattle.bpf_whynot.proofs.Unmaking.{no_goals, no_more, one_lower, some_goal}
use Rattle.bpf_whynot.proofs.whynot.has_none.Goals as goal

pub loop-slot-init : goal.loop-slot-init
loop-slot-init c = λ p lt. absurd (omega (arith, lt))

pub loop-slot-preserved : goal.loop-slot-preserved
loop-slot-preserved c = one_lower c.args.flags.now c.loop-slot.slot c.loop-slot.invariant (sym c.is_flagged.ensures ∙ c.if-is_flagged.false)

pub returns-then-is_flagged : goal.returns-then-is_flagged
returns-then-is_flagged c = λ program goals are. some_goal program goals c.args.flags.now c.loop-slot.slot are (sym c.is_flagged.ensures ∙ c.if-is_flagged.true)

pub returns : goal.returns
returns c = λ program goals are.
    let fin = c.loop-slot-test.false in
    no_goals program goals c.args.flags.now are (no_more c.args.flags.now c.loop-slot.slot (omega (arith, fin, c.loop-slot.auto.slot-end)) c.loop-slot.invariant)
