use Rattle.std.proofs.Common.{◌≡◌, ◌∙◌, List, [], ◌∷◌, Option, Some, None, ap, refl, map, codes}
use Rattle.std.specs.Borrow.{Bor}
use Rattle.std.specs.List.{list_all}
use Rattle.std.specs.Prelude.{◌&&◌, unwrap_or}
use Rattle.clap.proofs.WalkLemmas.{raw_values-rows}
use Rattle.clap.specs.Words.{Text, all_of, found_of, rows_of}
use Rattle.bpfdb_cli.specs.Plans.{has_offset}
use Rattle.bpfdb_cli.proofs.misfit.entries_fit.Goals as goal

-- texts and what they hold
of_texts : (texts : List (Bor Text)) → list_all (λ text. has_offset text.now) texts ≡ list_all has_offset (map (λ text. text.now) texts)
of_texts [] = refl
of_texts (text ∷ texts) = ap (λ b. has_offset text.now && b) (of_texts texts)

pub returns-in-Some : goal.returns-in-Some
returns-in-Some c =
    let rows = rows_of (found_of c.args.found.now) in
    let all : Some (map (λ text. text.now) c.in-Some.texts.now) ≡ all_of (codes "entry") rows
    = rw c.in-Some.is at (c.get_strs.ensures ∙ raw_values-rows (found_of c.args.found.now) (codes "entry")) in
    c.have_offsets.ensures ∙ (of_texts c.in-Some.texts.now ∙ ap (λ (o : Option (List Text)). list_all has_offset (unwrap_or o [])) all)

pub returns-in-None : goal.returns-in-None
returns-in-None c =
    let rows = rows_of (found_of c.args.found.now) in
    let all : None ≡ all_of (codes "entry") rows = rw c.in-None.is at (c.get_strs.ensures ∙ raw_values-rows (found_of c.args.found.now) (codes "entry")) in
    ap (λ (o : Option (List Text)). list_all has_offset (unwrap_or o [])) all
