-- Scaffolding: no public contract cites this. What an entry of the table of subcommands tells `clap`.
use Rattle.std.specs.Prelude.{ℕ, [], ◌∷◌, Some, true, fold}
use Rattle.clap.specs.Words.{App, Rule, Text, new_app, new_rule, with_rule, with_subcommand}
use Rattle.clap.specs.declared.builder.action.ArgAction.TheVariants.{Append, SetTrue}
use Rattle.clap.specs.declared.builder.value_parser.ValueParser.TheVariants as vp
use Rattle.bpfdb_limits.specs.Limits.{greatest_count}
use Rattle.bpfdb_cli.specs.declared.options.CliOption.{CliOption}
use Rattle.bpfdb_cli.specs.declared.options.Takes.{Takes}
use Rattle.bpfdb_cli.specs.declared.options.Takes.TheVariants as takes
use Rattle.bpfdb_cli.specs.declared.subcommands.CliSubcommand.{CliSubcommand}

-- An option with a text, of no default.
abbrev pub text_rule : Text → Rule
text_rule name = record (new_rule name) { long = Some name; value_names = 1 }

-- One with a number of steps, of lines or of a packet, and one that takes nothing.
abbrev pub count_rule_of : Text → Rule
count_rule_of name = record (text_rule name) { parser = Some (vp.Unsigned 1 greatest_count) }

abbrev pub flag_rule : Text → Rule
flag_rule name = record (new_rule name) { long = Some name; action = Some SetTrue }

-- One that is known by an older name, too.
abbrev pub renamed_rule : Text → Text → Rule
renamed_rule name old_name = record (text_rule name) { aliases = old_name ∷ [] }

-- One that takes nothing, and is known by a letter and by an older name, too.
abbrev pub renamed_flag_rule : Text → ℕ → Text → Rule
renamed_flag_rule name letter old_name = record (flag_rule name) { short = Some letter; aliases = old_name ∷ [] }

-- What stands behind the options.
abbrev pub operand_rule : Text → Rule
operand_rule name = record (new_rule name) { value_names = 1 }

abbrev pub rule_by : Takes → Text → Rule
rule_by takes.Nothing name = flag_rule name
rule_by takes.Obsolete name = flag_rule name
rule_by takes.Text name = text_rule name
rule_by (takes.ShortText letter) name = record (text_rule name) { short = Some letter }
rule_by (takes.Renamed old_name) name = renamed_rule name old_name.now
rule_by (takes.RenamedFlag letter old_name) name = renamed_flag_rule name letter old_name.now
rule_by takes.Texts name = record (text_rule name) { action = Some Append }
rule_by (takes.TextOr default) name = record (text_rule name) { defaults = default.now ∷ [] }
rule_by takes.Count name = count_rule_of name
rule_by (takes.CountOr default) name = record (count_rule_of name) { defaults = default.now ∷ [] }
rule_by (takes.SizeOr default) name = record (text_rule name) { parser = Some (vp.Unsigned 0 18446744073709551615); defaults = default.now ∷ [] }
rule_by takes.File name = record (operand_rule name) { required = true }
rule_by (takes.FileOr default) name = record (operand_rule name) { defaults = default.now ∷ [] }
rule_by takes.Second name = record (operand_rule name) { index = Some 2 }
rule_by takes.NeededSecond name = record (operand_rule name) { required = true; index = Some 2 }

abbrev pub option_rule : CliOption → Rule
option_rule option = rule_by option.takes option.name.now

abbrev pub with_option : App → CliOption → App
with_option app option = with_rule app (option_rule option)

unfoldable pub entry_app : CliSubcommand → App
entry_app entry = fold with_option (new_app entry.name.now) entry.options.now

abbrev pub with_entry : App → CliSubcommand → App
with_entry app entry = with_subcommand app (entry_app entry).top
