-- Rows of conditions.
use Rattle.std.proofs.Common.{◌≡◌, ℕ, Bool, true, false, cond, not, ◌==◌, List, [], ◌∷◌, refl, ap}
use Rattle.std.specs.Prelude.{filter, map, take}
use Rattle.bpf_agent.specs.Conditions.{code_at, without}
use Rattle.bpf_agent.specs.declared.conditions.Row.{Row}

-- a row, as contracts see it
abbrev pub shown : Row → ℕ × List ℕ
shown row = (row.slot, take row.len row.bytes)

-- the rows of other slots
kept : (keep : Bool) (row : Row) (rows : List Row) (cs : List (ℕ × List ℕ)) → map shown rows ≡ cs → map shown (cond keep (row ∷ rows) rows) ≡ cond keep (shown row ∷ cs) cs
kept true row rows cs e = ap (λ (v : List (ℕ × List ℕ)). shown row ∷ v) e
kept false row rows cs e = e

pub shown-without : (slot : ℕ) (rows : List Row) → map shown (filter (λ row. not (row.slot == slot)) rows) ≡ without slot (map shown rows)
shown-without slot [] = refl
shown-without slot (row ∷ rows) = kept (not (row.slot == slot)) row _ _ (shown-without slot rows)

-- the bytecode of the first row, if it has the slot, and of the others if not
pub code-here : (slot : ℕ) (row : Row) (rows : List Row) → row.slot == slot ≡ true → code_at slot (map shown (row ∷ rows)) ≡ take row.len row.bytes
code-here slot row rows e = rw e refl

pub code-there : (slot : ℕ) (row : Row) (rows : List Row) → row.slot == slot ≡ false → code_at slot (map shown (row ∷ rows)) ≡ code_at slot (map shown rows)
code-there slot row rows e = rw e refl
