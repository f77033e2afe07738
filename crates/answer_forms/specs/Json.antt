-- Texts of JSON (RFC 8259): strings, numbers, members of objects.
use Rattle.std.specs.Prelude.{ℕ, ◌/◌, ◌%◌, Bool, false, ◌==◌, ◌&&◌, ◌||◌, not, nat_lt, if◌then◌else◌, List, [], ◌∷◌, ◌++◌, codes, flat_map, length}
use Rattle.std.specs.List.{list_all}
use Rattle.answer_forms.specs.Cuts.{begins}
use Rattle.std.specs.Fmt.{digit_glyph}
use Rattle.std.specs.Char.{is_digit}

-- A byte of a string: a quotation mark (34) and a reverse solidus (92) stand behind a reverse solidus, control characters by their number;
-- any other byte as it is.
abbrev pub numbered : ℕ → List ℕ
numbered b = 92 ∷ 117 ∷ 48 ∷ 48 ∷ digit_glyph false (b / 16) ∷ digit_glyph false (b % 16) ∷ []

unfoldable pub escaped : ℕ → List ℕ
escaped b = if b == 34 || b == 92 then 92 ∷ b ∷ [] else if nat_lt b 32 then numbered b else b ∷ []

abbrev pub quoted : List ℕ → List ℕ
quoted s = 34 ∷ flat_map escaped s ++ 34 ∷ []

-- Digits that are a number of JSON which each reader has exactly: below 10^15, and so below 2^53; without zeros in front.
unfoldable pub are_few : List ℕ → Bool
are_few s = nat_lt 0 (length s) && nat_lt (length s) 16

unfoldable pub is_plain : List ℕ → Bool
is_plain s = not (begins (codes "0") s) || length s == 1

unfoldable pub is_count : List ℕ → Bool
is_count s = are_few s && (is_plain s && list_all (λ d. is_digit d 10) s)

-- A member of an object, behind others: its name, and its value.
unfoldable pub lead : List ℕ → List ℕ
lead name = 44 ∷ quoted name ++ 58 ∷ []

abbrev pub member : List ℕ → List ℕ → List ℕ
member name value = lead name ++ value
