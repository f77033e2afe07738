use Rattle.std.proofs.Common.{refl}
use Rattle.counted_io.proofs.Appending.{WritesAfter-WritesAfter}
use Rattle.bpf_trace.specs.Objects.{unwritten_object}
use Rattle.bpf_trace.proofs.unwritten.put_unwritten_object.Goals as goal

pub returns : goal.returns
unfolding unwritten_object
returns g c =
    let after = WritesAfter-WritesAfter g.W.Write.contents in
    let two = after _ _ _ _ _ _ _ _ _ c.put_unwritten_lead-begun.ensures c.put-placed.ensures refl in
    let three = after _ _ _ _ _ _ _ _ _ two c.put-told.ensures refl in
    after _ _ _ _ _ _ _ _ _ three c.put.ensures refl
