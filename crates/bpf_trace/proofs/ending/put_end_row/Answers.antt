use Rattle.std.proofs.Common.{refl}
use Rattle.counted_io.proofs.Appending.{WritesAfter-WritesAfter}
use Rattle.bpf_trace.proofs.ending.put_end_row.Goals as goal

pub returns-in-Text : goal.returns-in-Text
returns-in-Text g c =
    let after = WritesAfter-WritesAfter g.W.Write.contents in
    let two = after _ _ _ _ _ _ _ _ _ c.put_end_text-ended.ensures c.put-placed.ensures refl in
    rw c.in-Text.is (after _ _ _ _ _ _ _ _ _ two c.put.ensures refl)
