use Rattle.bpfdb_cli.specs.CommandLine.{with_runs}
use Rattle.bpfdb_cli.specs.Subcommands.{entry_app}
use Rattle.bpfdb_cli.proofs.command_line.with_runs.Goals as goal

pub returns : goal.returns
unfolding with_runs entry_app
returns c = c.with_entries.ensures
