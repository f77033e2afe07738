-- How a line is cut: at words, and into pieces at a byte.
use Rattle.std.specs.Prelude.{ℕ, Bool, ◌==◌, if◌then◌else◌, List, [], ◌∷◌, drop, take, length, Option, Some, None}
use Rattle.std.specs.Option.{option_map, option_map_or}
use Rattle.std.specs.Str.{bytes_eq}
use Rattle.counted_io.specs.Lines.{onto_line}

-- Whether a text begins with words; what stands behind them.
abbrev pub begins : List ℕ → List ℕ → Bool
begins words s = bytes_eq (take (length words) s) words

unfoldable pub behind : List ℕ → List ℕ → Option (List ℕ)
behind words s = if begins words s then Some (drop (length words) s) else None

-- What stands before words where they first stand in a text, and what behind them.
abbrev pub cut_at : List ℕ → List ℕ → Option (List ℕ × List ℕ)
cut_at words [] = None
cut_at words (b ∷ s) = option_map_or (λ rest. Some ([], rest)) (behind words (b ∷ s)) (option_map (λ p. (b ∷ p.0, p.1)) (cut_at words s))

-- The pieces of a text between a byte; what follows the last one is a piece only where it isn't empty.
abbrev pub pieces : ℕ → List ℕ → List (List ℕ)
pieces byte [] = []
pieces byte (b ∷ s) = if b == byte then [] ∷ pieces byte s else onto_line b (pieces byte s)
