-- Which subcommand asks what, and what a run is compared with.
use Rattle.std.specs.Prelude.{Bool, true, false}
use Rattle.bpfdb_options.specs.declared.ask.Ask.{Ask}
use Rattle.bpfdb_options.specs.declared.ask.Ask.TheVariants as ask
use Rattle.bpfdb_options.specs.declared.ask.OtherSide.{OtherSide}
use Rattle.bpfdb_options.specs.declared.ask.OtherSide.TheVariants as side
use Rattle.bpfdb_options.specs.declared.subcommand.Subcommand.{Subcommand}
use Rattle.bpfdb_options.specs.declared.subcommand.Subcommand.TheVariants.{Run, Trace, Debug, Origin, Whynot, Diff, Gdb, Asm, Disasm, Lines, Check, Load, Link, Test, Batch}

abbrev pub subcommand_for : Ask → Subcommand
subcommand_for (ask.Run strict) = Run
subcommand_for (ask.Trace a) = Trace
subcommand_for ask.Debug = Debug
subcommand_for (ask.Conversation a) = Debug
subcommand_for (ask.Origin a) = Origin
subcommand_for (ask.Whynot a) = Whynot
subcommand_for (ask.Diff a) = Diff
subcommand_for (ask.Gdb registers) = Gdb
subcommand_for ask.Asm = Asm
subcommand_for ask.Disasm = Disasm
subcommand_for ask.Lines = Lines
subcommand_for ask.Check = Check
subcommand_for ask.Load = Load
subcommand_for (ask.Link joined) = Link
subcommand_for (ask.Test a) = Test
subcommand_for ask.Batch = Batch

abbrev pub is_trace : OtherSide → Bool
is_trace side.Trace = true
is_trace other = false

abbrev pub is_context : OtherSide → Bool
is_context side.Context = true
is_context other = false
