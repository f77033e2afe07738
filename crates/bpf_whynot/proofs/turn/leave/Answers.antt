use Rattle.std.proofs.Common.{◌∙◌, Bool, ap, arith, subst, sym}
use Rattle.std.specs.Prelude.{if◌then◌else◌}
use Rattle.std.proofs.lemmas.Result.{IfOk-weaker}
use Rattle.bpf_steps.specs.State.{depth}
use Rattle.bpf_whynot.specs.Branches.{aim_at}
use Rattle.bpf_whynot.specs.BranchTurns.{Chases}
use Rattle.bpf_whynot.proofs.Turning.{is_lower, not_lower}
use Rattle.bpf_whynot.proofs.turn.leave.Goals as goal

pub returns-then-deep-own : goal.returns-then-deep-own
returns-then-deep-own c =
    IfOk-weaker c.chase.result _ _
    (λ turn chases. λ x here knows.
    let deep = c.depth-deep.ensures ∙ ap depth here in
    let low = c.if-deep-own.true in
    subst (λ (b : Bool). Chases x c.args.wanted.now (if b then aim_at x else c.args.hunt.aim) c.args.hunt turn)
    (sym (is_lower (depth x) c.args.hunt.aim.depth (omega (arith, deep, low)))) (chases x here knows))
    c.chase.ensures

pub returns-else-deep-own : goal.returns-else-deep-own
returns-else-deep-own c =
    IfOk-weaker c.hold.result _ _
    (λ turn holds. λ x here knows.
    let deep = c.depth-deep.ensures ∙ ap depth here in
    let high = c.if-deep-own.false in
    subst (λ (b : Bool). Chases x c.args.wanted.now (if b then aim_at x else c.args.hunt.aim) c.args.hunt turn)
    (sym (not_lower (depth x) c.args.hunt.aim.depth (λ low. omega (arith, deep, high, low)))) (holds x here knows.0))
    c.hold.ensures
