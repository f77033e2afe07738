-- What a journal keeps: entries and marks, the newest first, as many of the newest as weigh no more than its size. bpfdb's own choice.
use Rattle.std.specs.Prelude.{◌≤◌, ℕ, ◌-◌, nat_le, Bool, if◌then◌else◌, List, [], ◌∷◌}
use Rattle.bpf_entries.specs.declared.entry.Entry.{Entry}
use Rattle.bpf_entries.specs.Weights.{weight}

-- A journal's size is 1,024 to 16,777,216 bytes.
abbrev pub least_size : ℕ
least_size = 1024

abbrev pub greatest_size : ℕ
greatest_size = 16777216

abbrev pub IsSize : ℕ → Type 0
IsSize size = (least_size ≤ size) × (size ≤ greatest_size)

-- An entry with its mark.
abbrev pub Kept : Type 0
Kept = Entry × Bool

-- What each weighs, in bytes.
abbrev pub kept_weight : Kept → ℕ
kept_weight k = weight k.0

-- The longest beginning whose weights sum to at most the room.
unfoldable pub fit : {A : Type 0} → (A → ℕ) → ℕ → List A → List A
fit weigh room [] = []
fit weigh room (e ∷ es) = if nat_le (weigh e) room then e ∷ fit weigh (room - weigh e) es else []

-- A new one goes in front, and what no longer fits is dropped.
abbrev pub keep : {A : Type 0} → (A → ℕ) → ℕ → List A → A → List A
keep weigh room es e = fit weigh room (e ∷ es)
