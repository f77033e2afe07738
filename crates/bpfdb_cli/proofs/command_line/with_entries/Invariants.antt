use Rattle.std.proofs.Common.{◌≡◌, fold, take}
use Rattle.clap.specs.Words.{app_of}
use Rattle.bpfdb_cli.specs.Subcommands.{with_entry}
use Rattle.bpfdb_cli.proofs.command_line.with_entries.Given as goal

abbrev pub invariant-loop-entry : goal.invariant-loop-entry
invariant-loop-entry l = app_of l.command ≡ fold with_entry (app_of l.fn.bare) (take l.entry-index l.entries)
