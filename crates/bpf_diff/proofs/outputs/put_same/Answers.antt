use Rattle.std.proofs.Common.{refl}
use Rattle.counted_io.proofs.Appending.{WritesAfter-WritesAfter}
use Rattle.bpf_diff.proofs.outputs.put_same.Goals as goal

pub returns-clause-text : goal.returns-clause-text
returns-clause-text g c =
    WritesAfter-WritesAfter g.W.Write.contents _ _ _ _ _ _ _ _ _ c.put-told.ensures c.put_ends.ensures refl
