use Rattle.std.proofs.Common.{refl}
use Rattle.counted_io.proofs.Appending.{WritesAfter-WritesAfter}
use Rattle.bpf_diff.proofs.against_ending.put_end_here.Goals as goal

pub returns : goal.returns
returns g c = WritesAfter-WritesAfter g.W.Write.contents _ _ _ _ _ _ _ _ _ c.put-marked.ensures c.put_end.ensures refl
