-- What stands behind the number of a move, in pieces between semicolons: parts of the machine with their values, and all else that is told of it.
use Rattle.std.specs.Prelude.{ℕ, Bool, ◌==◌, ◌||◌, ◌&&◌, not, if◌then◌else◌, List, [], ◌∷◌, ◌++◌, codes, length}
use Rattle.std.specs.Option.{option_map_or}
use Rattle.counted_io.specs.Lines.{trim_start}
use Rattle.answer_forms.specs.Cuts.{begins, cut_at}
use Rattle.answer_forms.specs.Json.{escaped, quoted}

-- The name of a part: of a register, of bytes, of a word of the helper trace.
unfoldable pub is_part : List ℕ → Bool
is_part s = begins (codes "r") s || begins (codes "0x") s || begins (codes "word ") s

-- A part, with its value where one is told.
abbrev pub named : List ℕ → List ℕ
named name = codes "{\"part\":" ++ quoted name

abbrev pub bare : List ℕ → List ℕ
bare name = named name ++ codes "}"

abbrev pub with_value : List ℕ × List ℕ → List ℕ
with_value p = named p.0 ++ codes ",\"value\":" ++ quoted p.1 ++ codes "}"

unfoldable pub part : List ℕ → List ℕ
part s = option_map_or with_value (cut_at (codes " = ") s) (bare s)

-- Those among pieces, with commas between; nothing for another piece.
unfoldable pub part_at : Bool → List ℕ → List ℕ
part_at first s = if is_part s then (if first then [] else codes ",") ++ part s else []

abbrev pub parts_from : Bool → List (List ℕ) → List ℕ
parts_from first [] = []
parts_from first (s ∷ ss) = part_at first (trim_start s) ++ parts_from (first && not (is_part (trim_start s))) ss

-- Names with blanks between, as a list. In names of parts blanks may stand: there one ends a name only before a part.
unfoldable pub next : Bool → ℕ → List ℕ → List ℕ
next of_parts b s = if b == 32 && (not of_parts || is_part s) then codes "\",\"" else escaped b

abbrev pub spaced : Bool → List ℕ → List ℕ
spaced of_parts [] = []
spaced of_parts (b ∷ s) = next of_parts b s ++ spaced of_parts s

unfoldable pub names : Bool → List ℕ → List ℕ
names of_parts s = if length s == 0 then codes "[]" else codes "[\"" ++ spaced of_parts s ++ codes "\"]"
