use Rattle.std.proofs.Common.{◌≡◌, ◌∙◌, List, Option, Some, None, ap, map, codes, []}
use Rattle.std.specs.Prelude.{unwrap_or}
use Rattle.clap.proofs.WalkLemmas.{raw_values-rows}
use Rattle.clap.specs.Words.{Text, all_of, found_of, rows_of}
use Rattle.input_texts.specs.Counts.{are_counts}
use Rattle.bpfdb_cli.proofs.misfit.counts_fit.Goals as goal

pub returns-in-Some : goal.returns-in-Some
returns-in-Some c =
    let rows = rows_of (found_of c.args.found.now) in
    let all : Some (map (λ text. text.now) c.in-Some.texts.now) ≡ all_of (codes "entries") rows
    = rw c.in-Some.is at (c.get_strs.ensures ∙ raw_values-rows (found_of c.args.found.now) (codes "entries")) in
    c.are_counts.ensures ∙ ap (λ (o : Option (List Text)). are_counts (unwrap_or o [])) all

pub returns-in-None : goal.returns-in-None
returns-in-None c =
    let rows = rows_of (found_of c.args.found.now) in
    let all : None ≡ all_of (codes "entries") rows = rw c.in-None.is at (c.get_strs.ensures ∙ raw_values-rows (found_of c.args.found.now) (codes "entries")) in
    ap (λ (o : Option (List Text)). are_counts (unwrap_or o [])) all
