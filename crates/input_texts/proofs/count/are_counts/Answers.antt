use Rattle.std.proofs.Common.{◌≡◌, ◌∙◌, List, ℕ, [], ◌∷◌, Bool, length, map, ap, sym, refl}
use Rattle.std.proofs.lemmas.List.{length-map}
use Rattle.std.specs.Borrow.{Bor}
use Rattle.std.specs.List.{list_all}
use Rattle.std.specs.Prelude.{◌&&◌}
use Rattle.input_texts.specs.Counts.{are_apart, are_counts, has_count}
use Rattle.input_texts.proofs.count.are_counts.Goals as goal

-- texts and what they hold
of_texts : (texts : List (Bor (List ℕ))) → list_all (λ text. has_count text.now) texts ≡ list_all has_count (map (λ text. text.now) texts)
of_texts [] = refl
of_texts (text ∷ texts) = ap (λ b. has_count text.now && b) (of_texts texts)

both : (texts : List (Bor (List ℕ))) (counted apart : Bool) → counted ≡ list_all (λ text. has_count text.now) texts
    → apart ≡ are_apart (map (λ text. text.now) texts) (length texts) → (counted && apart) ≡ are_counts (map (λ text. text.now) texts)
both texts counted apart each own =
    ap (λ b. b && apart) (each ∙ of_texts texts) ∙ ap (λ b. list_all has_count (map (λ text. text.now) texts) && b)
    (own ∙ ap (are_apart (map (λ text. text.now) texts)) (sym (length-map texts (λ text. text.now))))

pub returns-then-have_counts : goal.returns-then-have_counts
returns-then-have_counts c =
    ap (λ b. b && c.are_apart.result) (sym c.if-have_counts.true) ∙ both c.args.texts.now c.have_counts.result c.are_apart.result c.have_counts.ensures c.are_apart.ensures

pub returns-else-have_counts : goal.returns-else-have_counts
returns-else-have_counts c =
    let apart = are_apart (map (λ text. text.now) c.args.texts.now) (length c.args.texts.now) in
    c.if-have_counts.false ∙ (ap (λ b. b && apart) (sym c.if-have_counts.false) ∙ both c.args.texts.now c.have_counts.result apart c.have_counts.ensures refl)
