use Rattle.std.proofs.Common.{◌∙◌, ap, Bool, List, [], ◌∷◌, ◌++◌, map, ℕ}
use Rattle.std.proofs.lemmas.List.{map-append}
use Rattle.std.proofs.lemmas.Result.{IfOk-weaker}
use Rattle.std.specs.Borrow.{Bor}
use Rattle.clap.specs.Words.{Rule, Text, rule_of}
use Rattle.bpfdb_cli.specs.Subcommands.{text_rule}
use Rattle.bpfdb_cli.proofs.command_line.renamed.Goals as goal

-- the name of an alias
abbrev name_of : Bor (List ℕ) × Bool → List ℕ
name_of alias = alias.0.now

pub returns-clause-value : goal.returns-clause-value
returns-clause-value c =
    let old = c.text_option.result in
    let is = c.text_option.ensures.value in
    let rule = text_rule c.args.option.now.name.now in
    IfOk-weaker c.alias.result _ _ (λ arg adds.
    let names = ap (map name_of) adds.1 ∙ map-append name_of old.aliases.items _ in
    let all = names ∙ ap (λ before. before ++ c.args.old_name.now ∷ []) (ap (λ (r : Rule). r.aliases) is) in
    ap rule_of adds.0 ∙ ap (λ (r : Rule). record r { aliases = map name_of arg.aliases.items }) is ∙ ap (λ aliases. record rule { aliases = aliases }) all)
    c.alias.ensures
