use Rattle.std.proofs.Common.{◌∙◌, ap, subst, sym, ℕ}
use Rattle.std.proofs.lemmas.Result.{IfOk-weaker}
use Rattle.bpf_steps.specs.State.{State}
use Rattle.bpf_whynot.specs.Branches.{aim_at}
use Rattle.bpf_whynot.specs.Sures.{TellsSure, told_sure}
use Rattle.bpf_whynot.proofs.Turning.{chases_from}
use Rattle.bpf_whynot.proofs.turn.chase.Goals as goal

pub returns-then-slot-was : goal.returns-then-slot-was
returns-then-slot-was c =
    IfOk-weaker c.hold.result _ _
    (λ turn holds. λ x here knows.
    chases_from x c.args.wanted.now c.of-aim.result c.args.hunt.sure c.args.hunt turn (c.of-aim.ensures ∙ ap aim_at here)
    ((rw c.aimed.ensures at holds) x here
    (subst (λ (s : ℕ). TellsSure x.program s (told_sure c.args.hunt.sure)) (sym c.if-slot-was.true) knows.0)))
    c.hold.ensures

pub returns-in-Ok : goal.returns-in-Ok
returns-in-Ok c =
    IfOk-weaker c.hold-in-Ok.result _ _
    (λ turn holds. λ x here knows.
    chases_from x c.args.wanted.now c.of-aim.result c.in-Ok.sure c.args.hunt turn (c.of-aim.ensures ∙ ap aim_at here)
    (holds x here (subst (λ (z : State). TellsSure z.program c.of-aim.result.slot (told_sure c.in-Ok.sure)) here (rw c.program.ensures at c.in-Ok.ensures))))
    c.hold-in-Ok.ensures
