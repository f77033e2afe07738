use Rattle.std.proofs.lemmas.List.{append-nil}
use Rattle.counted_io.proofs.Appending.{Writes-none, Writes-text}
use Rattle.bpfdb_jobs.specs.MapLines.{linked_text}
use Rattle.bpfdb_jobs.proofs.maps.write_linked.Goals as goal

pub returns : goal.returns
unfolding linked_text
returns g c =
    let listed = c.put_maps-listed.ensures _ _ (Writes-none g.E.Write.contents c.args.errors.now _) in
    let told = c.put_names_behind-told.ensures _ _ listed in
    let called = c.put_count-called.ensures _ _ told in
    let left = c.put_count-left.ensures _ _ called in
    Writes-text g.E.Write.contents _ _ _ _ _ (c.flush_after.ensures _ _ left) (append-nil _)
