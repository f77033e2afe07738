use Rattle.counted_io.proofs.Appending.{WritesAfter-text}
use Rattle.bpf_cover.proofs.Making.{text_there}
use Rattle.bpf_diff.proofs.told_writers.put_slot.Goals as goal

pub returns-in-Some : goal.returns-in-Some
returns-in-Some g c =
    WritesAfter-text g.W.Write.contents _ _ _ _ _ _ c.put_at.ensures (text_there c.args.program.now c.args.slot _ c.in-Some.ensures)
