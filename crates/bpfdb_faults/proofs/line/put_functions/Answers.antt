use Rattle.std.proofs.Common.{◌≡◌, ◌++◌, ℕ, List, [], ap, append-nil, append_assoc, ◌∙◌}
use Rattle.counted_io.proofs.Appending.{Writes-text}
use Rattle.bpfdb_faults.proofs.line.put_functions.Goals as goal

-- a text, nothing, and an end
in_line : (front text end : List ℕ) → (front ++ (text ++ [])) ++ end ≡ front ++ (text ++ end)
in_line front text end = ap (λ t. (front ++ t) ++ end) (append-nil text) ∙ append_assoc front text end

pub returns : goal.returns
returns g c = λ first front known.
    let said = c.put_object-said.ensures first front known in
    Writes-text g.E.Write.contents _ _ _ _ _ (c.put_place.ensures first _ said) (in_line front _ _)
