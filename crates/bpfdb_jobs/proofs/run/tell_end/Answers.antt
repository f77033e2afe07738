use Rattle.std.proofs.lemmas.List.{append-nil}
use Rattle.counted_io.proofs.Appending.{Writes-none, Writes-text}
use Rattle.bpfdb_jobs.proofs.run.tell_end.Goals as goal

pub returns : goal.returns
returns g c =
    let written = c.put_told_end-written.ensures _ _ (Writes-none g.E.Write.contents c.args.errors.now _) in
    Writes-text g.E.Write.contents _ _ _ _ _ (c.flush_after.ensures _ _ written) (append-nil _)
