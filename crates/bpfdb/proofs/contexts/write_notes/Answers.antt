use Rattle.std.proofs.Common.{◌≡◌, ◌++◌, List, [], ℕ, append_assoc, codes, refl}
use Rattle.std.proofs.lemmas.List.{append-nil}
use Rattle.counted_io.proofs.Appending.{Writes-none, Writes-text}
use Rattle.bpfdb.specs.Contexts.{note_line}
use Rattle.bpfdb.proofs.contexts.write_notes.Goals as goal

-- the parts, one behind the other
in_line : (first second : List ℕ) → (([] ++ first) ++ second) ++ [] ≡ first ++ second
in_line first second = simp (append_assoc, append-nil) refl

pub returns : goal.returns
returns g c =
    let begun = Writes-none g.E.Write.contents c.args.errors.now _ in
    let first = c.put_line-first.ensures _ _ begun in
    let second = c.put_line-second.ensures _ _ first in
    Writes-text g.E.Write.contents _ _ _ _ _ (c.flush_after.ensures _ _ second)
    (in_line (note_line (codes "--packet") c.args.contexts.now.context.note) (note_line (codes "--other-packet") c.args.contexts.now.other.note))
