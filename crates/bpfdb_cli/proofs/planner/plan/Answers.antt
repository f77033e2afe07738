use Rattle.std.proofs.Common.{◌≡◌, ◌∙◌, [], ◌∷◌, refl, sym, subst, true, List, map, inl, inr, ⊎_elim, ap}
use Rattle.clap.specs.Faults.{walk_fault}
use Rattle.clap.specs.Words.{App, HasKind, Kinds, HasMatchesOf, IsAmong, Text, app_of, fault_of, is_simple, is_simple_and_free, kind_of, subcommand_of, subcommand_rows_of}
use Rattle.clap.specs.declared.error.Error.{Error}
use Rattle.clap.specs.declared.error.kind.ErrorKind.{ErrorKind}
use Rattle.clap.specs.declared.error.kind.ErrorKind.TheVariants.{DisplayHelp, InvalidSubcommand, ValueValidation}
use Rattle.clap.specs.declared.parser.matches.ArgMatches.{ArgMatches}
use Rattle.bpfdb_cli.specs.CommandLine.{command_app, with_files, with_questions, with_runs}
use Rattle.bpfdb_cli.specs.Plans.{HasKindIfTold, HasNoPlan, IsFaultOf, IsPlan, Tells}
use Rattle.bpfdb_cli.specs.Scaffolding.{AskAlike, IsHelp}
use Rattle.bpfdb_cli.specs.declared.plans.PlanFault.{PlanFault}
use Rattle.bpfdb_cli.specs.declared.plans.PlanFault.TheVariants.{Usage, Memory}
use Rattle.bpfdb_cli.proofs.planner.plan.Goals as goal

-- the command line is one of those whose matches are known exactly
simple : is_simple command_app ≡ true
unfolding command_app with_runs with_questions with_files
simple = refl

simple_and_free : is_simple_and_free command_app ≡ true
unfolding command_app with_runs with_questions with_files
simple_and_free = refl

-- `help` is help, or a subcommand that there isn't, whatever follows it
abbrev helps : Kinds
helps = DisplayHelp ∷ InvalidSubcommand ∷ []

help_faults : (words : List Text) → IsHelp words → fault_of command_app words ≡ helps
unfolding command_app with_runs with_questions with_files walk_fault
help_faults (name ∷ word ∷ rest) is = subst (λ w. fault_of command_app (name ∷ w ∷ rest) ≡ helps) (sym is) refl
help_faults (name ∷ []) is = absurd is
help_faults [] is = absurd is

-- so words that are asked alike have the same faults, and those that have none are the same
same_faults : (words asked : List Text) → AskAlike words asked → fault_of command_app asked ≡ fault_of command_app words
same_faults words asked (inl same) = ap (fault_of command_app) same
same_faults words asked (inr helped) = help_faults asked helped.1 ∙ sym (help_faults words helped.0)

some_kind : {kind : ErrorKind} {kinds : Kinds} → kind ∷ kinds ≡ [] → ⊥
some_kind is = cc

same_words : (words asked : List Text) → AskAlike words asked → fault_of command_app asked ≡ [] → asked ≡ words
same_words words asked (inl same) clear = same
same_words words asked (inr helped) clear = absurd (some_kind (sym (help_faults asked helped.1) ∙ clear))

met : (a : App) (words : List Text) (m : ArgMatches) → a ≡ command_app → HasMatchesOf a words m → subcommand_of command_app words ≡ subcommand_rows_of m
met a words m is has = sym ((subst (λ (b : App). HasMatchesOf b words m) is has) simple).1

pub returns-in-Ok-plan_of-clause-value : goal.returns-in-Ok-plan_of-clause-value
returns-in-Ok-plan_of-clause-value c =
    let v = c.in-Ok-plan_of.ensures.value in
    let words = map (λ word. word.now) c.args.words.now in
    let asked = map (λ word. word.now) c.asked_of.result.now in
    let line : app_of c.in-Ok.command ≡ command_app = c.in-Ok.ensures in
    let m = met (app_of c.in-Ok.command) _ c.in-Ok-try_get_matches_from_mut.matches line c.in-Ok-try_get_matches_from_mut.ensures.ok.2 in
    let kinds = c.in-Ok-try_get_matches_from_mut.ensures.kinds (ap is_simple_and_free line ∙ simple_and_free) in
    let clear : fault_of command_app asked ≡ [] = subst (λ app. fault_of app asked ≡ []) line kinds in
    let plan : IsPlan asked c.in-Ok-plan_of.plan = record { name = v.0; rows = v.1; met = m ∙ v.2; says = v.3; together = v.4; clear = clear } in
    subst (λ (ws : List Text). IsPlan ws c.in-Ok-plan_of.plan) (same_words words asked c.asked_of.ensures clear) plan

-- An error of `clap` that is told.
told : (words : List Text) (error : Error) (fault : PlanFault) → Tells error fault → HasKind (fault_of command_app words) error → IsFaultOf words fault
told words error Memory tells has = tt {0}
told words error (Usage e) (same, other) has = ⊎_elim (λ memory. absurd (other memory)) (λ among. inl (subst (λ x. IsAmong (kind_of x) (fault_of command_app words)) (sym same) among)) has

-- A value that its option doesn't take, or options that don't go together.
out_of_range : (words : List Text) (fault : PlanFault) → HasKindIfTold ValueValidation fault → HasNoPlan words → IsFaultOf words fault
out_of_range words Memory kind none = tt {0}
out_of_range words (Usage e) kind none = inr (kind, none)

pub returns-in-Err-try_get_matches_from_mut-clause-fault :
    goal.returns-in-Err-try_get_matches_from_mut-clause-fault
returns-in-Err-try_get_matches_from_mut-clause-fault c =
    let words = map (λ word. word.now) c.args.words.now in
    let line : app_of c.in-Ok.command ≡ command_app = c.in-Ok.ensures in
    let asked = map (λ word. word.now) c.asked_of.result.now in
    let kinds = c.in-Err-try_get_matches_from_mut.ensures.kinds (ap is_simple_and_free line ∙ simple_and_free) in
    let has = subst (λ app. HasKind (fault_of app asked) c.in-Err-try_get_matches_from_mut.error) line kinds in
    let error = c.in-Err-try_get_matches_from_mut.error in
    told words _ _ c.told_by.ensures (subst (λ (faults : Kinds). HasKind faults error) (same_faults words asked c.asked_of.ensures) has)

pub returns-clause-fault : goal.returns-clause-fault
returns-clause-fault c =
    let line : app_of c.in-Ok.command ≡ command_app = c.in-Ok.ensures in
    let matches = c.in-Ok-try_get_matches_from_mut.ensures.ok.2 (ap is_simple line ∙ simple) in
    let words = map (λ word. word.now) c.args.words.now in
    let asked = map (λ word. word.now) c.asked_of.result.now in
    let kinds = c.in-Ok-try_get_matches_from_mut.ensures.kinds (ap is_simple_and_free line ∙ simple_and_free) in
    let clear : fault_of command_app asked ≡ [] = subst (λ app. fault_of app asked ≡ []) line kinds in
    let same : asked ≡ words = same_words words asked c.asked_of.ensures clear in
    let rows = matches.1 ∙ ap (λ app. subcommand_of app asked) line ∙ ap (subcommand_of command_app) same in
    out_of_range words _ c.no_plan.ensures (λ name found plan met. c.in-Err-plan_of.ensures.none name found plan (rows ∙ met))
