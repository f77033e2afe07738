-- Where slots of a program stand in its source, by a table of rows SLOT FILE:LINE FUNCTION, as `lines` writes it of an object: a hyphen stands for a
-- place or a function that isn't known. A row ends at a line feed (10) or a form feed (12), and blanks around it don't count.
use Rattle.std.specs.Prelude.{ℕ, ◌==◌, ◌||◌, ◌&&◌, Bool, false, if◌then◌else◌, List, [], ◌∷◌, codes, filter_map, length, Option, Some, None, is_some}
use Rattle.std.specs.Cmp.Lexicographic.{slice_cmp}
use Rattle.std.specs.List.{list_all, slice_split}
use Rattle.std.specs.List.Sorted.{IsPermutation, IsSorted}
use Rattle.std.specs.Option.{option_and_then, option_map, option_map_or}
use Rattle.std.specs.Ordering.{nat_cmp, ordering_then}
use Rattle.std.specs.Str.{bytes_eq}
use Rattle.std.specs.declared.cmp.Ordering.{Ordering}
use Rattle.counted_io.specs.Cuts.{after, before, trim}
use Rattle.bpf_cover.specs.Tracefiles.{number_of}
use Rattle.bpf_cover.specs.declared.places.Spot.{Spot}

-- A text cut at the last such byte.
abbrev pub onto_cut : ℕ → ℕ → List ℕ → Option (List ℕ × List ℕ) → Option (List ℕ × List ℕ)
onto_cut byte b s (Some sides) = Some (b ∷ sides.0, sides.1)
onto_cut byte b s None = if b == byte then Some ([], s) else None

abbrev pub last_cut : ℕ → List ℕ → Option (List ℕ × List ℕ)
last_cut byte [] = None
last_cut byte (b ∷ s) = onto_cut byte b s (last_cut byte s)

-- A place, FILE:LINE; the file has a name.
abbrev pub place_by : List ℕ × List ℕ → Option (List ℕ × ℕ)
place_by sides = if length sides.0 == 0 then None else option_map (λ line. (sides.0, line)) (number_of sides.1)

abbrev pub place_in : List ℕ → Option (List ℕ × ℕ)
place_in word = option_and_then place_by (last_cut 58 word)

-- The word of a row between its slot and its function.
abbrev pub place_word : List ℕ → Option (List ℕ)
place_word row = option_map (λ sides. sides.0) (last_cut 32 (after 32 row))

-- The slot of a row with its place, where that is known.
abbrev pub spot_by : Option ℕ → Option (List ℕ × ℕ) → Option Spot
spot_by (Some slot) (Some place) = Some (record { file = place.0; line = place.1; slot = slot })
spot_by (Some slot) None = None
spot_by None place = None

abbrev pub spot_of : List ℕ → Option Spot
spot_of row = spot_by (number_of (before 32 row)) (option_and_then place_in (place_word row))

-- The rows of a table, and the places that they tell.
abbrev pub rows_of : List ℕ → List (List ℕ)
rows_of table = slice_split (λ b. b == 10 || b == 12) table

abbrev pub spots_of : List ℕ → List Spot
spots_of table = filter_map (λ row. spot_of (trim row)) (rows_of table)

-- A table is one whose rows are such, or blank.
abbrev pub is_place : List ℕ → Bool
is_place word = bytes_eq word (codes "-") || is_some (place_in word)

abbrev pub is_row : List ℕ → Bool
is_row row = is_some (number_of (before 32 row)) && option_map_or is_place (place_word row) false

abbrev pub is_fine : List ℕ → Bool
is_fine row = length row == 0 || is_row row

abbrev pub is_table : List ℕ → Bool
is_table table = list_all (λ row. is_fine (trim row)) (rows_of table)

-- Places by file, by line, and by slot.
abbrev pub spot_cmp : Spot → Spot → Ordering
spot_cmp a b = ordering_then (ordering_then (slice_cmp nat_cmp a.file b.file) (nat_cmp a.line b.line)) (nat_cmp a.slot b.slot)

pub record AreInOrder (spots ordered : List Spot) : Type 0 where
  pub same : IsPermutation spots ordered
  pub order : IsSorted spot_cmp ordered
