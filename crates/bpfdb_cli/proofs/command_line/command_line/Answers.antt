use Rattle.std.proofs.Common.{◌≡◌, ◌∙◌, Result, ap}
use Rattle.std.proofs.lemmas.Result.{IfOk-weaker}
use Rattle.std.specs.Prelude.{IfOk}
use Rattle.clap.specs.Words.{App, app_of}
use Rattle.clap.specs.declared.builder.command.Command.{Command}
use Rattle.bpfdb_cli.specs.CommandLine.{bare_app, command_app, with_subcommands}
use Rattle.bpfdb_cli.proofs.command_line.command_line.Goals as goal

-- The bare command with its subcommands is the whole one.
whole : {E : Type 0} (made : Result Command E) (bare : App) → bare ≡ bare_app → IfOk made (λ command. app_of command ≡ with_subcommands bare)
    → IfOk made (λ command. app_of command ≡ command_app)
unfolding command_app
whole made bare is has = IfOk-weaker made _ _ (λ command told. told ∙ ap with_subcommands is) has

pub returns : goal.returns
returns c = whole c.with_subcommands.result (app_of c.in_ok-bare_command.field-0) c.in_ok-bare_command.ensures c.with_subcommands.ensures
