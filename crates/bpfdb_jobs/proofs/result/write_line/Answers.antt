use Rattle.std.proofs.Common.{◌≡◌, ◌∙◌, ◌++◌, List, [], Option, ℕ, ap, append_assoc, codes, refl}
use Rattle.std.proofs.lemmas.List.{append-nil}
use Rattle.counted_io.proofs.Appending.{Writes-none, Writes-text}
use Rattle.counted_io.specs.Writing.{hexadecimal}
use Rattle.bpfdb_jobs.specs.Results.{behind_number}
use Rattle.bpfdb_jobs.proofs.result.write_line.Goals as goal

-- the parts, one behind the other
in_line : (begun named told : List ℕ) → ((([] ++ begun) ++ named) ++ told) ++ [] ≡ begun ++ named ++ told
in_line begun named told = simp (append_assoc, append-nil) refl

pub returns : goal.returns
returns g c =
    let none = Writes-none g.W.Write.contents c.args.writer.now _ in
    let begun = c.put_hexadecimal-begun.ensures _ _ none in
    let named = c.put_verdict-named.ensures _ _ begun in
    let told = c.put-told.ensures _ _ named in
    Writes-text g.W.Write.contents _ _ _ _ _ (c.flush_after.ensures _ _ told)
    (in_line (hexadecimal c.args.value) _ (codes "\n")
    ∙ ap (λ (name : Option (List ℕ)). hexadecimal c.args.value ++ behind_number name ++ codes "\n") c.verdict_by.ensures)
