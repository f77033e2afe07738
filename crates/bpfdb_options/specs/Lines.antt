-- How many lines an answer may have. bpfdb's own choice.
use Rattle.std.specs.Prelude.{ℕ}

-- Where no number is given.
abbrev pub default_lines : ℕ
default_lines = 1_000
