-- The lines of a script: how a line is cut into tokens, and which tokens are numbers. bpfdb's own choice.
use Rattle.std.specs.Prelude.{ℕ, List, length, count_by, Option, nat_lt, ◌==◌}
use Rattle.std.specs.List.{slice_split, filter}
use Rattle.std.specs.Option.{option_and_then}
use Rattle.counted_io.specs.Lines.{is_blank}
use Rattle.counted_io.specs.Numerals.{natural, as_u64}

-- How many line feeds a text holds.
abbrev pub line_feeds : List ℕ → ℕ
line_feeds text = count_by (λ byte. byte == 10) text

-- A line is cut at blanks; the parts that aren't empty are its tokens.
abbrev pub tokens : List ℕ → List (List ℕ)
tokens line = filter (λ part. nat_lt 0 (length part)) (slice_split is_blank line)

-- The number that a token is, if it is below 2^64.
abbrev pub number : List ℕ → Option ℕ
number token = option_and_then as_u64 (natural token)
