-- Limits of what bpfdb is asked for, and what holds where an option is absent. bpfdb's own choice.
use Rattle.std.specs.Prelude.{◌≤◌, ℕ}

-- The greatest count of a command, and the greatest limit of steps.
abbrev pub greatest_count : ℕ
greatest_count = 1_000_000_000

-- The most steps of a run or of a command.
abbrev pub IsLimit : ℕ → Type 0
IsLimit limit = (1 ≤ limit) × (limit ≤ greatest_count)

-- The journal's size in bytes where none is given.
abbrev pub default_journal : ℕ
default_journal = 65_536

-- The most steps of a run or of a command where no limit is given.
abbrev pub default_limit : ℕ
default_limit = 1_000_000
