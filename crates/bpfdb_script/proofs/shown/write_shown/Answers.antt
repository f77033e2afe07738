use Rattle.counted_io.proofs.Appending.{Writes-none}
use Rattle.bpfdb_script.proofs.shown.write_shown.Goals as goal

pub returns : goal.returns
returns g c = c.put_shown.ensures _ _ (Writes-none g.W.Write.contents c.args.writer.now _)
