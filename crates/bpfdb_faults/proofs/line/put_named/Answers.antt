use Rattle.std.proofs.Common.{ℕ, ◌≡◌, ◌<◌, ◌++◌, List, [], ◌∷◌, append_assoc, codes, length, refl, arith}
use Rattle.bpfdb_script.specs.Shown.{shown}
use Rattle.bpfdb_faults.specs.Faults.{name_text}
use Rattle.bpfdb_faults.proofs.line.put_named.Goals as goal

-- a name that isn't empty
some : (name : List ℕ) → 0 < length name → name_text name ≡ codes ": " ++ shown name
some [] h = absurd (omega (arith, h))
some (byte ∷ bytes) h = refl

pub returns-in_default : goal.returns-in_default
returns-in_default g c = λ first front known.
    rw (some c.args.name.now (omega (arith, c.in_default.len_at_least)))
    (simp append_assoc at (c.put_shown.ensures first _ (c.put-begun.ensures first front known)))
