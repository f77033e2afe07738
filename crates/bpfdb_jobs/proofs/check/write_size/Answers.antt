use Rattle.std.proofs.lemmas.List.{append-nil}
use Rattle.counted_io.proofs.Appending.{Writes-text}
use Rattle.bpfdb_jobs.proofs.check.write_size.Goals as goal

pub returns : goal.returns
returns g c = Writes-text g.W.Write.contents _ _ _ _ _ (c.flush_after.ensures _ _ c.put_size-written.ensures) (append-nil _)
