use Rattle.std.proofs.Common.{◌≡◌, fold, take}
use Rattle.clap.specs.Words.{app_of}
use Rattle.bpfdb_cli.specs.Subcommands.{with_option}
use Rattle.bpfdb_cli.proofs.command_line.with_options.Given as goal

abbrev pub invariant-loop-option : goal.invariant-loop-option
invariant-loop-option l = app_of l.command ≡ fold with_option (app_of l.fn.bare) (take l.option-index l.options)
