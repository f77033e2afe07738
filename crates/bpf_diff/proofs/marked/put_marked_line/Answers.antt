use Rattle.std.proofs.Common.{refl}
use Rattle.counted_io.proofs.Appending.{WritesAfter-WritesAfter}
use Rattle.bpf_diff.specs.Values.{marked_line}
use Rattle.bpf_diff.proofs.marked.put_marked_line.Goals as goal

pub returns : goal.returns
unfolding marked_line
returns g c =
    let two = WritesAfter-WritesAfter g.W.Write.contents _ _ _ _ _ _ _ _ _ c.put-begun.ensures c.put-told.ensures refl in
    WritesAfter-WritesAfter g.W.Write.contents _ _ _ _ _ _ _ _ _ two c.put.ensures refl
