use Rattle.std.proofs.Common.{◌≡◌, ◌++◌, List, [], ℕ, append_assoc, refl}
use Rattle.std.proofs.lemmas.List.{append-nil}
use Rattle.counted_io.proofs.Appending.{Writes-none, Writes-text}
use Rattle.bpfdb.specs.Notes.{fields_line, missing_line, unlike_lines}
use Rattle.bpfdb.proofs.notes.write_notes.Goals as goal

-- the parts, one behind the other
in_line : (missed counted told : List ℕ) → ((([] ++ missed) ++ counted) ++ told) ++ [] ≡ missed ++ counted ++ told
in_line missed counted told = simp (append_assoc, append-nil) refl

pub returns : goal.returns
returns g c =
    let begun = Writes-none g.E.Write.contents c.args.errors.now _ in
    let missed = c.put_missing-missed.ensures _ _ begun in
    let counted = c.put_fields-counted.ensures _ _ missed in
    let told = c.put_unlike-told.ensures _ _ counted in
    Writes-text g.E.Write.contents _ _ _ _ _ (c.flush_after.ensures _ _ told)
    (in_line (missing_line c.args.linux) (fields_line c.args.ask.now c.args.notes.now.fields) (unlike_lines c.args.answered c.args.notes.now))
