-- Texts that name places of a program: a label, a function, or a line of C; and those that ask about a value. bpfdb's own choice.
use Rattle.std.specs.Prelude.{ℕ, Bool, false, not, ◌==◌, ◌||◌, ◌&&◌, List, [], ◌∷◌, is_some, position}
use Rattle.std.specs.Char.{is_digit}

-- A line is FILE:LINE, with a colon (58).
abbrev pub is_line : List ℕ → Bool
is_line what = is_some (position (λ b. b == 58) what)

-- A name begins with a letter or an underscore (95), as no slot does.
abbrev pub begins_name : ℕ → Bool
begins_name b = b == 95 || (is_digit b 36 && not (is_digit b 10))

abbrev pub is_name : List ℕ → Bool
is_name [] = false
is_name (b ∷ what) = begins_name b

-- And texts that ask about a value, as `=VALUE` (61 is the equals sign): an enumerator, or a number.
abbrev pub asks_value : List ℕ → Bool
asks_value [] = false
asks_value (b ∷ what) = b == 61

abbrev pub is_place : List ℕ → Bool
is_place what = is_line what || (is_name what || asks_value what)
