-- The limits of a session's tables. bpfdb's own choice.
use Rattle.std.specs.Prelude.{ℕ}

-- the most breakpoints
abbrev pub most_breaks : ℕ
most_breaks = 64

-- the most watches
abbrev pub most_watches : ℕ
most_watches = 4
