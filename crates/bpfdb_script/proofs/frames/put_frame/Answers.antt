-- The pieces of a frame that is there.
use Rattle.std.proofs.Common.{sym}
use Rattle.bpfdb_script.specs.Texts.{text_of_frame}
use Rattle.bpfdb_script.proofs.Telling.{WritesAfter-nothing}
use Rattle.bpfdb_script.proofs.frames.put_frame.Goals as goal

pub returns-in-Some : goal.returns-in-Some
unfolding text_of_frame
returns-in-Some g c = rw (sym c.in-Some.ensures) (rw c.from-slot.ensures at c.put_all.ensures)

pub returns-in-None : goal.returns-in-None
returns-in-None g c = rw (sym c.in-None.ensures) (WritesAfter-nothing g.W.Write.contents c.args.writer.now c.args.so_far)
