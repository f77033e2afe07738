-- Scaffolding: no public contract cites this. A line as it is put together.
use Rattle.std.specs.Prelude.{◌≡◌, ℕ, List, ◌++◌, Option, Result}
use Rattle.counted_io.specs.Counted.{Tally}
use Rattle.counted_io.specs.Writing.{WritesAfter}

-- How much it has room for.
abbrev pub line_room : ℕ
line_room = 512

-- So much of a text was written, and a line holds the rest.
pub record Held {T A E : Type 0} (contents : T → Option (List ℕ)) (old : Tally T) (before : Result A E) (new : Tally T)
    (result : Result A E) (line whole : List ℕ) : Type 0 where
  pub told : List ℕ
  pub written : WritesAfter contents old before new result told
  pub parts : told ++ line ≡ whole
