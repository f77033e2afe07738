use Rattle.std.proofs.Common.{◌∙◌, ap, fold}
use Rattle.std.proofs.lemmas.Result.{IfOk-weaker}
use Rattle.clap.specs.Words.{App}
use Rattle.bpfdb_cli.specs.Subcommands.{entry_app, with_option}
use Rattle.bpfdb_cli.proofs.command_line.subcommand.Goals as goal

pub returns : goal.returns
unfolding entry_app
returns c =
    IfOk-weaker c.with_options.result _ _ (λ command is. is ∙ ap (λ (app : App). fold with_option app c.args.entry.now.options.now) c.described.ensures)
    c.with_options.ensures
