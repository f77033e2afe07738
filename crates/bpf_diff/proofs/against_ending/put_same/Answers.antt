use Rattle.std.proofs.Common.{refl}
use Rattle.counted_io.proofs.Appending.{WritesAfter-WritesAfter}
use Rattle.bpf_diff.proofs.against_ending.put_same.Goals as goal

pub returns : goal.returns
returns g c =
    let two = WritesAfter-WritesAfter g.W.Write.contents _ _ _ _ _ _ _ _ _ c.put-begun.ensures c.put_decimal-counted.ensures refl in
    let three = WritesAfter-WritesAfter g.W.Write.contents _ _ _ _ _ _ _ _ _ two c.put-parted.ensures refl in
    WritesAfter-WritesAfter g.W.Write.contents _ _ _ _ _ _ _ _ _ three c.put_end.ensures refl
