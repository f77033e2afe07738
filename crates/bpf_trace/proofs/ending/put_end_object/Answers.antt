use Rattle.std.proofs.Common.{refl}
use Rattle.counted_io.proofs.Appending.{WritesAfter-WritesAfter}
use Rattle.bpf_trace.specs.Objects.{end_object}
use Rattle.bpf_trace.proofs.ending.put_end_object.Goals as goal

pub returns : goal.returns
unfolding end_object
returns g c =
    let after = WritesAfter-WritesAfter g.W.Write.contents in
    let two = after _ _ _ _ _ _ _ _ _ c.put_end_lead-begun.ensures c.put-placed.ensures refl in
    after _ _ _ _ _ _ _ _ _ two c.put.ensures refl
