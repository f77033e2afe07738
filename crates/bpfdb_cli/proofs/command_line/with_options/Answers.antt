use Rattle.std.proofs.lemmas.List.{get_or_default}
use Rattle.bpfdb_cli.specs.Subcommands.{with_option}
use Rattle.bpfdb_cli.proofs.Folds.{fold-next}
use Rattle.bpfdb_cli.proofs.command_line.with_options.Goals as goal

pub loop-option-preserved : goal.loop-option-preserved
loop-option-preserved c =
    fold-next with_option _ _ _ _ c.args.options.now c.loop-option.option-index c.in_ok-command.ensures c.loop-option.invariant
    c.loop-option-test.true (get_or_default _ _ _ _ c.loop-option-test.true)
