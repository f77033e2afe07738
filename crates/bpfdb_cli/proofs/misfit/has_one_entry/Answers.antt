use Rattle.std.proofs.Common.{◌≡◌, ◌∙◌, ℕ, suc, List, [], ◌∷◌, Option, Some, None, ap, refl, map, codes, length}
use Rattle.std.specs.Borrow.{Bor}
use Rattle.std.specs.List.{list_all}
use Rattle.std.specs.Prelude.{◌&&◌, nat_le, not, unwrap_or}
use Rattle.clap.proofs.WalkLemmas.{raw_values-rows}
use Rattle.clap.specs.Words.{Text, all_of, found_of, rows_of}
use Rattle.input_texts.specs.Turns.{has_place}
use Rattle.bpfdb_cli.specs.Plans.{names_one}
use Rattle.bpfdb_cli.proofs.misfit.has_one_entry.Goals as goal

-- texts and what they hold
as-many : (texts : List (Bor Text)) → length texts ≡ length (map (λ text. text.now) texts)
as-many [] = refl
as-many (text ∷ texts) = ap (λ (n : ℕ). suc n) (as-many texts)

of_texts : (texts : List (Bor Text)) → list_all (λ text. not (has_place text.now)) texts ≡ list_all (λ text. not (has_place text)) (map (λ text. text.now) texts)
of_texts [] = refl
of_texts (text ∷ texts) = ap (λ b. not (has_place text.now) && b) (of_texts texts)

one : (texts : List (Bor Text)) → (nat_le (length texts) 1 && list_all (λ text. not (has_place text.now)) texts) ≡ names_one (map (λ text. text.now) texts)
one texts = rw (as-many texts, of_texts texts) refl

pub returns-in-Some : goal.returns-in-Some
returns-in-Some c =
    let rows = rows_of (found_of c.args.found.now) in
    let all : Some (map (λ text. text.now) c.in-Some.texts.now) ≡ all_of (codes "entry") rows
    = rw c.in-Some.is at (c.get_strs.ensures ∙ raw_values-rows (found_of c.args.found.now) (codes "entry")) in
    c.is_one.ensures ∙ one c.in-Some.texts.now ∙ ap (λ (o : Option (List Text)). names_one (unwrap_or o [])) all

pub returns-in-None : goal.returns-in-None
returns-in-None c =
    let rows = rows_of (found_of c.args.found.now) in
    let all : None ≡ all_of (codes "entry") rows = rw c.in-None.is at (c.get_strs.ensures ∙ raw_values-rows (found_of c.args.found.now) (codes "entry")) in
    ap (λ (o : Option (List Text)). names_one (unwrap_or o [])) all
