use Rattle.std.proofs.Common.{refl}
use Rattle.counted_io.proofs.Appending.{WritesAfter-WritesAfter}
use Rattle.bpf_diff.proofs.against.put_no_end.Goals as goal

pub returns : goal.returns
returns g c = λ n. WritesAfter-WritesAfter g.W.Write.contents _ _ _ _ _ _ _ _ _ c.put-headed.ensures c.put_end_here.ensures refl
