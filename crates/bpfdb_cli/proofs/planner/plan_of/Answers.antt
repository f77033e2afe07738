use Rattle.std.proofs.Common.{◌≡◌, ◌∙◌, rules, sym, subst, ap, List, Option, Some, unwrap_or}
use Rattle.clap.specs.Words.{Row, Text, found_of, rows_of, subcommand_rows_of}
use Rattle.bpfdb_cli.specs.Plans.{IsPlanOf}
use Rattle.bpfdb_cli.proofs.planner.plan_of.Goals as goal

pub returns-in-Err-clause-none : goal.returns-in-Err-clause-none
returns-in-Err-clause-none c name rows plan met is =
    let here : subcommand_rows_of c.args.matches.now ≡ Some (c.in-Some.name.now, rows_of (found_of c.in-Some.found.now)) = search rules in
    let same = ap (λ (o : Option (Text × List Row)). unwrap_or o (name, rows)) (sym here ∙ met) in
    c.in-Err.ensures.none plan (subst (λ (p : Text × List Row). IsPlanOf p.0 p.1 plan) (sym same) is)
