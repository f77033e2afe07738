use Rattle.bpfdb_cli.specs.CommandLine.{with_questions}
use Rattle.bpfdb_cli.specs.Subcommands.{entry_app}
use Rattle.bpfdb_cli.proofs.command_line.with_questions.Goals as goal

pub returns : goal.returns
unfolding with_questions entry_app
returns c = c.with_entries.ensures
