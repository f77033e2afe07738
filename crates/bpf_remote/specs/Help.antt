-- The lines that a script has, as `monitor help` lists them.
use Rattle.std.specs.Prelude.{ℕ, Bool, List}
use lib.Chars.{codes}
use Rattle.std.specs.Str.{bytes_eq}
use Rattle.bpf_remote.specs.declared.help.TheConstants.{HELP}

-- The list, which is the one in the code.
unfoldable pub help_text : List ℕ
help_text = HELP.now

-- A line asks for it: its digits, as gdb writes them, spell `help`.
abbrev pub asks_help : List ℕ → Bool
asks_help digits = bytes_eq digits (codes "68656c70")
