use Rattle.std.proofs.Common.{refl}
use Rattle.counted_io.proofs.Appending.{WritesAfter-WritesAfter}
use Rattle.bpf_trace.proofs.line_end.put_parts.Goals as goal

pub returns : goal.returns
returns g c =
    WritesAfter-WritesAfter g.W.Write.contents _ _ _ _ _ _ _ _ _
    (WritesAfter-WritesAfter g.W.Write.contents _ _ _ _ _ _ _ _ _ (rw c.as_slice.ensures at c.put-begun.ensures) c.put-told.ensures refl) c.put.ensures refl
