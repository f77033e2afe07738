use Rattle.std.proofs.Common.{Bool, List, [], ◌∷◌, ◌≡◌, ◌∙◌, ◌&&◌, true, false, not, ap, fold, refl}
use Rattle.std.proofs.lemmas.Bool.{and_parts, not-true}
use Rattle.std.proofs.lemmas.Result.{IfOk-weaker}
use Rattle.clap.specs.Words.{AddsSubcommand, App, app_of, with_subcommand}
use Rattle.clap.specs.declared.builder.command.Command.{Command}
use Rattle.bpfdb_cli.specs.Subcommands.{entry_app, with_option}
use Rattle.bpfdb_cli.specs.declared.options.CliOption.{CliOption}
use Rattle.bpfdb_cli.specs.declared.subcommands.CliSubcommand.{CliSubcommand}
use Rattle.bpfdb_cli.proofs.command_line.with_entry.Goals as goal

-- Options leave a command plain.
plain-options : (app : App) (options : List CliOption) → (fold with_option app options).top.is_plain ≡ app.top.is_plain
plain-options app [] = refl
plain-options app (option ∷ options) = plain-options (with_option app option) options

-- A plain command has no global option.
third-false : (a b c d : Bool) → (a && (b && (not c && d))) ≡ true → c ≡ false
third-false a b c d h = not-true c (and_parts (not c) d (and_parts b _ (and_parts a _ h).1).1).0

plain-entry : (entry : CliSubcommand) → (entry_app entry).top.is_plain ≡ true
unfolding entry_app
plain-entry entry = plain-options _ entry.options.now

joined : (above sub whole : Command) (entry : CliSubcommand) → app_of sub ≡ entry_app entry → AddsSubcommand above sub whole
    → app_of whole ≡ with_subcommand (app_of above) (entry_app entry).top
joined above sub whole entry is adds =
    adds.shape (third-false _ _ _ _ (ap (λ (a : App). a.top.is_plain) is ∙ plain-entry entry)) ∙ ap (λ (a : App). with_subcommand (app_of above) a.top) is

pub returns : goal.returns
returns c = IfOk-weaker c.subcommand-2.result _ _ (λ whole adds. joined _ _ whole c.args.entry.now c.in_ok-subcommand.ensures adds) c.subcommand-2.ensures
