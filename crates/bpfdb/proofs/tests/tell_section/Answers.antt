use Rattle.std.proofs.lemmas.List.{append-nil}
use Rattle.counted_io.proofs.Appending.{Writes-none, Writes-text}
use Rattle.bpfdb.proofs.tests.tell_section.Goals as goal

pub returns : goal.returns
returns g c =
    let begun = Writes-none g.E.Write.contents c.args.errors.now _ in
    let said = rw (c.number-number.ensures, c.text-text.ensures) at (c.put_numbered-said.ensures _ _ begun) in
    let ended = c.put-ended.ensures _ _ said in
    Writes-text g.E.Write.contents _ _ _ _ _ (c.flush_after.ensures _ _ ended) (append-nil _)
