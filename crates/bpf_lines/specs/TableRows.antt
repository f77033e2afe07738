-- What a row of a table of `bpfdb lines` tells of its slot, behind the slot and a blank (32): `LINE LABEL..` of a listing, `FILE:LINE FUNCTION` of
-- an object.
use Rattle.std.specs.Prelude.{ℕ, ◌-◌, ◌==◌, ◌&&◌, ◌||◌, not, nat_lt, Bool, true, false, if◌then◌else◌, List, [], ◌∷◌, drop, take, length, slice_index}
use Rattle.std.specs.List.{list_any, slice_split}
use Rattle.std.specs.Str.{bytes_eq}
use Rattle.bpf_lines.specs.Places.{is_line}

-- A label is one of the words.
abbrev pub has_label : List ℕ → List ℕ → Bool
has_label told name = list_any (λ word. bytes_eq word name) (slice_split (λ b. b == 32) told)

-- All up to the last such byte, and what stands behind that.
abbrev pub onto_front : ℕ → ℕ → List ℕ → List ℕ
onto_front byte b [] = if not (b == byte) then [] else b ∷ []
onto_front byte b (c ∷ front) = b ∷ c ∷ front

abbrev pub front_of : ℕ → List ℕ → List ℕ
front_of byte [] = []
front_of byte (b ∷ text) = onto_front byte b (front_of byte text)

abbrev pub behind_last : ℕ → List ℕ → List ℕ
behind_last byte text = drop (length (front_of byte text)) text

-- The function is the last word, and what stands before it and its blank is the line.
abbrev pub function_in : List ℕ → List ℕ
function_in told = behind_last 32 told

abbrev pub line_in : List ℕ → List ℕ
line_in told = take (length (front_of 32 told) - 1) told

-- A line is named whole, or from behind a slash (47) of its path on.
abbrev pub ends_behind : ℕ → List ℕ → List ℕ → Bool
ends_behind byte text end =
    nat_lt (length end) (length text)
    && (slice_index text (length text - length end - 1) == byte && bytes_eq (drop (length text - length end) text) end)

abbrev pub is_at : List ℕ → List ℕ → Bool
is_at line what = bytes_eq line what || ends_behind 47 line what

-- A row of an object's table, or of a listing's, tells a place.
abbrev pub tells_object : List ℕ → List ℕ → Bool
tells_object told what = if is_line what then is_at (line_in told) what else bytes_eq (function_in told) what

abbrev pub tells : Bool → List ℕ → List ℕ → Bool
tells true told what = tells_object told what
tells false told what = has_label told what
