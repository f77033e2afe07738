use Rattle.std.proofs.lemmas.List.{append-nil}
use Rattle.counted_io.proofs.Appending.{Writes-text}
use Rattle.bpfdb_jobs.proofs.hint.flush_hint.Goals as goal

pub returns : goal.returns
returns g c = Writes-text g.E.Write.contents _ _ _ _ _ (c.flush_after.ensures _ _ c.write_hint-written.ensures) (append-nil _)
