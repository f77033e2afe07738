-- How a line is cut into parts as it is read.
use Rattle.std.specs.Prelude.{ℕ, ◌+◌, ◌==◌, if◌then◌else◌, List, [], ◌∷◌, take, drop, position, Option}
use Rattle.std.specs.List.{before_first, after_first}
use Rattle.std.specs.Option.{option_map}
use Rattle.counted_io.specs.Lines.{is_blank, trim_start}

-- What stands before the first such byte, or all.
abbrev pub before : ℕ → List ℕ → List ℕ
before byte s = before_first (λ b. b == byte) s

-- What stands behind it, or nothing.
abbrev pub after : ℕ → List ℕ → List ℕ
after byte s = after_first (λ b. b == byte) s

-- Both, where there is such a byte.
abbrev pub cut : ℕ → List ℕ → Option (List ℕ × List ℕ)
cut byte s = option_map (λ at. (take at s, drop (at + 1) s)) (position (λ b. b == byte) s)

-- Without the blanks at the end.
abbrev pub onto_trimmed : ℕ → List ℕ → List ℕ
onto_trimmed b [] = if is_blank b then [] else b ∷ []
onto_trimmed b (c ∷ s) = b ∷ c ∷ s

abbrev pub trim_end : List ℕ → List ℕ
trim_end [] = []
trim_end (b ∷ s) = onto_trimmed b (trim_end s)

-- Without the blanks on both sides.
abbrev pub trim : List ℕ → List ℕ
trim s = trim_end (trim_start s)
