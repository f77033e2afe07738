-- Marks of slots: 0 of none, and else a number and 1.
use Rattle.std.specs.Prelude.{◌≡◌, ◌<◌, ℕ, suc, Bool, List, Option, Some, None, length, slice_index}
use Rattle.bpf_btf.specs.Maps.{last_below}

abbrev pub mark_of : Option ℕ → ℕ
mark_of None = 0
mark_of (Some i) = suc i

-- Each slot has the mark of what is said of it.
abbrev pub AreMarks : (ℕ → Option ℕ) → List ℕ → Type 0
AreMarks says marks = (slot : ℕ) → slot < length marks → slice_index marks slot ≡ mark_of (says slot)

-- Among the numbers below n the last one is said of a slot that names it.
abbrev pub last_named : (ℕ → ℕ → Bool) → ℕ → ℕ → Option ℕ
last_named names n slot = last_below (names slot) n
