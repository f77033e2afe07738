use Rattle.std.proofs.Common.{refl}
use Rattle.counted_io.proofs.Appending.{WritesAfter-WritesAfter}
use Rattle.bpf_lines.proofs.objects.put_object.Goals as goal

pub returns : goal.returns
returns g c =
    let size = rw c.part.ensures.value at c.len.ensures in
    WritesAfter-WritesAfter g.W.Write.contents _ _ _ _ _ _ _ _ _ c.put_rows-coded.ensures (rw size at c.put_rows.ensures) refl
