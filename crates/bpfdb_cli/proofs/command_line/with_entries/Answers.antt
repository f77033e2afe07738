use Rattle.std.proofs.lemmas.List.{get_or_default}
use Rattle.bpfdb_cli.specs.Subcommands.{with_entry}
use Rattle.bpfdb_cli.proofs.Folds.{fold-next}
use Rattle.bpfdb_cli.proofs.command_line.with_entries.Goals as goal

pub loop-entry-preserved : goal.loop-entry-preserved
loop-entry-preserved c =
    fold-next with_entry _ _ _ _ c.args.entries.now c.loop-entry.entry-index c.in_ok-command.ensures c.loop-entry.invariant c.loop-entry-test.true
    (get_or_default _ _ _ _ c.loop-entry-test.true)
