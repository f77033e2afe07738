use Rattle.std.proofs.lemmas.List.{append-nil}
use Rattle.counted_io.proofs.Appending.{Writes-none, Writes-text}
use Rattle.bpfdb_faults.proofs.report.tell_text.Goals as goal

pub returns : goal.returns
returns g c =
    let written = rw c.as_bytes.ensures.value at (c.put_shown_lines-written.ensures _ _ (Writes-none g.E.Write.contents c.args.errors.now _)) in
    Writes-text g.E.Write.contents _ _ _ _ _ (c.flush_after.ensures _ _ written) (append-nil _)
