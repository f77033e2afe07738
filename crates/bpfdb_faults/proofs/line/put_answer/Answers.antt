use Rattle.std.proofs.Common.{ℕ, ◌≡◌, ◌<◌, ◌++◌, List, [], ◌∷◌, codes, decimal, length, refl, arith}
use Rattle.bpfdb_faults.specs.Faults.{answer_text}
use Rattle.bpfdb_faults.proofs.line.put_answer.Goals as goal

-- a helper that has no name, and one that has
unnamed : (helper : ℕ) (name : List ℕ) → length name < 1 → answer_text helper name ≡ codes ": --helper " ++ decimal helper ++ codes "=VALUE answers it"
unnamed helper [] none = refl
unnamed helper (byte ∷ bytes) none = absurd (omega (arith, none))

named : (helper : ℕ) (name : List ℕ) → 0 < length name → answer_text helper name ≡ codes ": --with OBJECT or --helper " ++ decimal helper ++ codes "=VALUE answers it"
named helper [] some = absurd (omega (arith, some))
named helper (byte ∷ bytes) some = refl

pub returns-in-empty : goal.returns-in-empty
returns-in-empty g c = λ first front known.
    let name = c.helper_name-name.result.now in
    rw (← c.helper_name-name.ensures, unnamed c.args.helper name (omega (arith, c.in-empty.len_below)))
    (rw c.from-number.ensures at (c.put_all.ensures first front known))

pub returns-in_default : goal.returns-in_default
returns-in_default g c = λ first front known.
    let name = c.helper_name-name.result.now in
    rw (← c.helper_name-name.ensures, named c.args.helper name (omega (arith, c.in_default.len_at_least)))
    (rw c.from-number.ensures at (c.put_all-in_default.ensures first front known))
