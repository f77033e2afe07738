use Rattle.std.proofs.Common.{Bool, ap, sym}
use Rattle.counted_io.proofs.Appending.{WritesAfter-text}
use Rattle.bpf_remote.specs.Connections.{packet}
use Rattle.bpf_remote.proofs.serving.put_answer.Goals as goal

pub returns-then-is_answered : goal.returns-then-is_answered
returns-then-is_answered g c = λ text held.
    WritesAfter-text _ _ _ _ _ _ _ (c.put_sent.ensures text held) (ap (λ (b : Bool). packet b text) (sym c.if-is_answered.true))
