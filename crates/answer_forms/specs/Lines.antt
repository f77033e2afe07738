-- What the lines of an answer tell of, and what of that they read.
use Rattle.std.specs.Prelude.{ℕ, Bool, ◌==◌, List, [], ◌∷◌, ◌++◌, codes}
use Rattle.std.specs.List.{list_any}
use Rattle.std.specs.Option.{option_map_or}
use Rattle.counted_io.specs.Cuts.{after, before}
use Rattle.counted_io.specs.Lines.{trim_start}
use Rattle.answer_forms.specs.Cuts.{cut_at, pieces}
use Rattle.answer_forms.specs.Parts.{part_in, places}

-- What stands behind the first word of a line. (Codes: blank 32, semicolon 59.)
abbrev pub body : List ℕ → List ℕ
body line = after 32 line

-- The names behind these words, up to a semicolon.
abbrev pub read_text : List ℕ → List ℕ
read_text line = option_map_or (λ p. before 59 p.1) (cut_at (codes "; from") (body line)) []

-- A line tells the parts with which its pieces begin, up to one that is no part.
abbrev pub told_by : List (List ℕ) → List ℕ
told_by [] = []
told_by (s ∷ ss) = option_map_or (λ p. places p.first p.told ++ told_by ss) (part_in (trim_start s)) []

unfoldable pub tells : List ℕ → ℕ → Bool
tells line p = list_any (λ q. q == p) (told_by (pieces 59 (body line)))
