use Rattle.std.proofs.Common.{ℕ, ◌≡◌, ◌<◌, ◌++◌, List, [], ◌∷◌, append_assoc, ap, codes, decimal, length, refl, sym, ◌∙◌, arith}
use Rattle.counted_io.proofs.Appending.{Writes-text}
use Rattle.bpfdb_script.specs.Shown.{shown}
use Rattle.bpfdb_jobs.specs.MapLines.{name_line}
use Rattle.bpfdb_jobs.proofs.maps.put_name.Goals as goal

-- a name that isn't empty
some : (number : ℕ) (name : List ℕ) → 0 < length name → name_line number name ≡ codes "map " ++ decimal number ++ codes ": " ++ shown name ++ codes "\n"
some number [] h = absurd (omega (arith, h))
some number (byte ∷ name) h = refl

-- the parts of the line, one behind the other
in_line : (front word number by name end : List ℕ)
    → ((front ++ (word ++ number ++ by)) ++ name) ++ end ≡ front ++ (word ++ number ++ by ++ name ++ end)
in_line front word number by name end = simp append_assoc refl

pub returns-in_default : goal.returns-in_default
returns-in_default g c = λ first front known.
    let begun = c.put_all-begun.ensures first front known in
    let named = c.put_shown-named.ensures first _ begun in
    Writes-text g.E.Write.contents _ _ _ _ _ (c.put-in_default.ensures first _ named)
    (in_line front (codes "map ") (decimal c.args.number) (codes ": ") (shown c.args.name.now) (codes "\n")
    ∙ ap (λ line. front ++ line) (sym (some c.args.number c.args.name.now (omega (arith, c.in_default.len_at_least)))))
