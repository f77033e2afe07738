-- The names of the subcommands.
use Rattle.std.specs.Prelude.{ℕ, List, codes}
use Rattle.bpfdb_options.specs.declared.subcommand.Subcommand.{Subcommand}
use Rattle.bpfdb_options.specs.declared.subcommand.Subcommand.TheVariants.{Run, Trace, Debug, Origin, Whynot, Diff, Gdb, Asm, Disasm, Lines, Check, Load, Link, Test, Batch}

-- As help lists them.
abbrev pub subcommand_name : Subcommand → List ℕ
subcommand_name Run = codes "run"
subcommand_name Trace = codes "trace"
subcommand_name Debug = codes "debug"
subcommand_name Origin = codes "origin"
subcommand_name Whynot = codes "whynot"
subcommand_name Diff = codes "diff"
subcommand_name Gdb = codes "gdb"
subcommand_name Asm = codes "asm"
subcommand_name Disasm = codes "disasm"
subcommand_name Lines = codes "lines"
subcommand_name Check = codes "check"
subcommand_name Load = codes "load"
subcommand_name Link = codes "link"
subcommand_name Test = codes "test"
subcommand_name Batch = codes "batch"
