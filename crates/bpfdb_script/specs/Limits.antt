-- The limits of lines and of their numbers. bpfdb's own choice.
use Rattle.std.specs.Prelude.{ℕ}
pub use Rattle.bpfdb_limits.specs.Limits.{greatest_count}

-- The most bytes and instructions that are shown at once.
abbrev pub greatest_span : ℕ
greatest_span = 256

-- The most bytes that an edit writes.
abbrev pub longest_bytes : ℕ
longest_bytes = 256

-- The longest line, in bytes; its line feed isn't counted.
abbrev pub longest_line : ℕ
longest_line = 1024
