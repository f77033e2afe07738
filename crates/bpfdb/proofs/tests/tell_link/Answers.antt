use Rattle.std.proofs.lemmas.List.{append-nil}
use Rattle.counted_io.proofs.Appending.{Writes-none, Writes-text}
use Rattle.bpfdb.proofs.tests.tell_link.Goals as goal

pub returns : goal.returns
returns g c =
    let begun = Writes-none g.E.Write.contents c.args.errors.now _ in
    let said = rw c.as_slice.ensures.value at (c.put_object-said.ensures _ _ begun) in
    let told = rw append-nil at said in
    let ended = c.put_end-ended.ensures _ _ told in
    Writes-text g.E.Write.contents _ _ _ _ _ (c.flush_after.ensures _ _ ended) (append-nil _)
