use Rattle.std.proofs.lemmas.Result.{IfOk-weaker}
use Rattle.bpf_whynot.proofs.turn.follow.Goals as goal

pub returns-then-decided : goal.returns-then-decided
returns-then-decided c = rw c.if-decided.true c.chase.ensures

pub returns-else-decided : goal.returns-else-decided
returns-else-decided c =
    rw c.if-decided.false (IfOk-weaker c.hold.result _ _ (λ turn holds. λ x here knows. holds x here knows.0) c.hold.ensures)
