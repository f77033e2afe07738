use Rattle.std.proofs.Common.{refl}
use Rattle.counted_io.proofs.Appending.{WritesAfter-WritesAfter}
use Rattle.bpf_trace.proofs.profile.put_profile.Goals as goal

pub returns : goal.returns
returns g c = WritesAfter-WritesAfter g.W.Write.contents _ _ _ _ _ _ _ _ _ (rw c.program.ensures at c.put-told.ensures) c.put_told_end.ensures refl
