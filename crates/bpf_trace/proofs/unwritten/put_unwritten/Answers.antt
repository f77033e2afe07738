use Rattle.std.proofs.Common.{refl}
use Rattle.counted_io.proofs.Appending.{WritesAfter-WritesAfter}
use Rattle.bpf_trace.proofs.unwritten.put_unwritten.Goals as goal

pub returns : goal.returns
returns g c =
    let after = WritesAfter-WritesAfter g.W.Write.contents in
    let text = rw c.from.ensures at c.text_of_slot.ensures in
    let two = after _ _ _ _ _ _ _ _ _ c.put_read-read_at.ensures (rw text at c.put-placed.ensures) refl in
    let three = after _ _ _ _ _ _ _ _ _ two c.put_call-called.ensures refl in
    after _ _ _ _ _ _ _ _ _ three c.put.ensures refl
