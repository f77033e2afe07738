-- The lines of a text, and the blanks in them, in listings and in scripts. bpfdb's own choice.
use Rattle.std.specs.Prelude.{ℕ, Bool, ◌==◌, ◌||◌, not, if◌then◌else◌, List, [], ◌∷◌, drop}
use Rattle.std.specs.List.{position_or_len}

-- A text is cut at line feeds; what follows the last one is a line only where it isn't empty.
abbrev pub onto_line : ℕ → List (List ℕ) → List (List ℕ)
onto_line b [] = (b ∷ []) ∷ []
onto_line b (line ∷ lines) = (b ∷ line) ∷ lines

abbrev pub lines : List ℕ → List (List ℕ)
lines [] = []
lines (b ∷ bytes) = if b == 10 then [] ∷ lines bytes else onto_line b (lines bytes)

-- A blank: space, tab, carriage return.
abbrev pub is_blank : ℕ → Bool
is_blank b = b == 32 || b == 9 || b == 13

-- Without the blanks in front.
abbrev pub trim_start : List ℕ → List ℕ
trim_start s = drop (position_or_len (λ b. not (is_blank b)) s) s
