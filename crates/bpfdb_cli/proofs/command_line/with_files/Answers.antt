use Rattle.bpfdb_cli.specs.CommandLine.{with_files}
use Rattle.bpfdb_cli.specs.Subcommands.{entry_app}
use Rattle.bpfdb_cli.proofs.command_line.with_files.Goals as goal

pub returns : goal.returns
unfolding with_files entry_app
returns c = c.with_entries.ensures
