use Rattle.std.proofs.Common.{refl}
use Rattle.counted_io.proofs.Appending.{WritesAfter-WritesAfter}
use Rattle.bpf_trace.proofs.ending.put_exit_lead.Goals as goal

pub returns : goal.returns
returns g c =
    let after = WritesAfter-WritesAfter g.W.Write.contents in
    let two = after _ _ _ _ _ _ _ _ _ c.put-begun.ensures c.put_slot-placed.ensures refl in
    let three = after _ _ _ _ _ _ _ _ _ two c.put-named.ensures refl in
    let four = after _ _ _ _ _ _ _ _ _ three c.put_hexadecimal-told.ensures refl in
    after _ _ _ _ _ _ _ _ _ four c.put.ensures refl
