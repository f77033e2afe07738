-- The characters of a listing, and its names. bpfdb's own choice.
use Rattle.std.specs.Prelude.{ℕ, Bool, false, ◌==◌, ◌&&◌, ◌||◌, nat_le, List, [], ◌∷◌}
use Rattle.std.specs.List.{list_all}
use Rattle.counted_io.specs.Lines.{is_blank}

-- What may stand outside comments: printing ASCII and blanks.
abbrev pub is_text : ℕ → Bool
is_text b = (nat_le 32 b && nat_le b 126) || is_blank b

-- A letter or an underscore.
abbrev pub is_letter : ℕ → Bool
is_letter b = (nat_le 65 b && nat_le b 90) || (nat_le 97 b && nat_le b 122) || b == 95

-- A letter, an underscore or a digit.
abbrev pub is_name_byte : ℕ → Bool
is_name_byte b = is_letter b || (nat_le 48 b && nat_le b 57)

-- A name: a letter or an underscore, and then letters, digits and underscores.
abbrev pub is_name : List ℕ → Bool
is_name [] = false
is_name (b ∷ s) = is_letter b && list_all is_name_byte s
