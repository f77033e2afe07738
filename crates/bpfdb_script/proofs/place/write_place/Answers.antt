use Rattle.counted_io.proofs.Appending.{Writes-none}
use Rattle.bpfdb_script.proofs.place.write_place.Goals as goal

pub returns : goal.returns
returns g c = c.put_place.ensures _ _ (Writes-none g.W.Write.contents c.args.writer.now _)
