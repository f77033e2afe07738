use Rattle.std.proofs.Common.{ℕ, ◌≡◌, ◌<◌, ◌++◌, List, [], ◌∷◌, ap, length, refl, sym, arith}
use Rattle.counted_io.proofs.Appending.{Writes-text}
use Rattle.bpfdb_script.specs.Shown.{shown}
use Rattle.bpf_lines.specs.NamedMaps.{base_text}
use Rattle.bpf_lines.proofs.place_names.put_base.Goals as goal

-- a name that isn't empty
some : (number : ℕ) (name : List ℕ) → 0 < length name → base_text number name ≡ shown name
some number [] h = absurd (omega (arith, h))
some number (b ∷ name) h = refl

pub returns-in_default : goal.returns-in_default
returns-in_default g c = λ first front known.
    Writes-text g.W.Write.contents _ _ _ _ _ (c.put_shown.ensures first front known)
    (ap (λ text. front ++ text) (sym (some c.args.number c.args.name.now (omega (arith, c.in_default.len_at_least)))))
