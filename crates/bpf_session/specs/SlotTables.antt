-- Scaffolding: a table beside a list of slots, which tells at once of most other slots that they are not in the list.
use Rattle.std.specs.Prelude.{◌≡◌, ◌<◌, ℕ, ◌%◌, ◌==◌, Bool, List, Some, slice_get, length}
use Rattle.std.specs.List.{list_any}

-- Whether one of some slots has a place in the table: its remainder.
abbrev pub has_at : List ℕ → ℕ → Bool
has_at slots place = list_any (λ slot. slot % 8192 == place) slots

-- The table tells of each place whether one of the slots has it.
pub record IsTableOf (slots : List ℕ) (table : List Bool) : Type 0 where
  pub whole : length table ≡ 8192
  pub each : (place : ℕ) → place < 8192 → slice_get table place ≡ Some (has_at slots place)
