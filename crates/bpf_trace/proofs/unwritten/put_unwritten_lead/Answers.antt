use Rattle.std.proofs.Common.{refl}
use Rattle.counted_io.proofs.Appending.{WritesAfter-WritesAfter}
use Rattle.bpf_trace.proofs.unwritten.put_unwritten_lead.Goals as goal

pub returns : goal.returns
returns g c =
    let after = WritesAfter-WritesAfter g.W.Write.contents in
    let two = after _ _ _ _ _ _ _ _ _ c.put-begun.ensures c.put_hexadecimal-addressed.ensures refl in
    let three = after _ _ _ _ _ _ _ _ _ two c.put-ended.ensures refl in
    after _ _ _ _ _ _ _ _ _ three (rw c.from.ensures at c.put_slot.ensures) refl
