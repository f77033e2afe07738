-- Places that lines tell, one after another.
use Rattle.std.proofs.Common.{◌≡◌, ◌+◌, ◌-◌, ◌%◌, ◌^◌, ◌<◌, ℕ, suc, Bool, true, false, List, [], ◌∷◌, ◌++◌, Option, Some, None, refl, sym, ap, ◌∙◌, arith}
use Rattle.std.specs.Prelude.{if◌then◌else◌, ◌==◌, ◌||◌}
use Rattle.std.specs.List.{list_any}
use Rattle.std.specs.Option.{option_map_or}
use Rattle.std.specs.Ordering.{is_eq, nat_cmp}
use Rattle.std.proofs.lemmas.Bool.Decides.{nat_tests}
use Rattle.std.proofs.lemmas.List.Folds.{list_any-append}
use Rattle.counted_io.specs.Lines.{trim_start}
use Rattle.answer_forms.specs.Lines.{told_by}
use Rattle.answer_forms.specs.Parts.{part_in, places}
use Rattle.answer_forms.specs.Tellers.{told_or}
use Rattle.answer_forms.specs.declared.graph_part.Part.{Part}

-- the places from one on, where there is one
pub places-more : (p n i : ℕ) → i < n → places p (n - i) ≡ p ∷ places ((p + 1) % 2 ^ 64) (n - (i + 1))
places-more p n i inside =
    let one : n - i ≡ suc (n - (i + 1)) = omega (arith, inside) in
    ap (places p) one

pub places-none : (p n i : ℕ) → i ≡ n → places p (n - i) ≡ []
places-none p n i all =
    let none : n - i ≡ 0 = omega (arith, all) in
    ap (places p) none

-- what is told of two lists of places
told-either : (a b : Bool) (k : ℕ) (before : Option ℕ) → (if b then Some k else (if a then Some k else before)) ≡ (if a || b then Some k else before)
told-either true true k before = refl
told-either true false k before = refl
told-either false true k before = refl
told-either false false k before = refl

-- of one more place
pub told-place : (p n i k q : ℕ) (old new : Option ℕ) → i < n → new ≡ (if is_eq (nat_cmp p q) then Some k else old)
    → told_or (places ((p + 1) % 2 ^ 64) (n - (i + 1))) k new q ≡ told_or (places p (n - i)) k old q
told-place p n i k q old new inside e =
    let same : is_eq (nat_cmp p q) ≡ (p == q) = grind (arith, nat_tests) in
    ap (λ (o : Option ℕ). told_or (places ((p + 1) % 2 ^ 64) (n - (i + 1))) k o q) (e ∙ ap (λ (b : Bool). if b then Some k else old) same)
    ∙ told-either (p == q) (list_any (λ r. r == q) (places ((p + 1) % 2 ^ 64) (n - (i + 1)))) k old
    ∙ ap (λ (ps : List ℕ). told_or ps k old q) (sym (places-more p n i inside))

-- of one more piece
abbrev by : List (List ℕ) → Option Part → List ℕ
by ss found = option_map_or (λ p. places p.first p.told ++ told_by ss) found []

pub told-piece : (s : List ℕ) (old rest : List (List ℕ)) (part : Part) (k q : ℕ) (before after : Option ℕ) → old ≡ s ∷ rest
    → part_in (trim_start s) ≡ Some part → after ≡ told_or (places part.first part.told) k before q
    → told_or (told_by rest) k after q ≡ told_or (told_by old) k before q
told-piece s old rest part k q before after is found e =
    ap (λ (o : Option ℕ). told_or (told_by rest) k o q) e
    ∙ told-either (list_any (λ r. r == q) (places part.first part.told)) (list_any (λ r. r == q) (told_by rest)) k before
    ∙ ap (λ (b : Bool). if b then Some k else before) (sym (list_any-append (λ r. r == q) (places part.first part.told) (told_by rest)))
    ∙ ap (λ (ps : List ℕ). told_or ps k before q) (sym (ap told_by is ∙ ap (by rest) found))

-- of a piece that is no part
pub told-none : (s : List ℕ) (old rest : List (List ℕ)) (k q : ℕ) (before : Option ℕ) → old ≡ s ∷ rest → part_in (trim_start s) ≡ None
    → before ≡ told_or (told_by old) k before q
told-none s old rest k q before is found = ap (λ (ps : List ℕ). told_or ps k before q) (sym (ap told_by is ∙ ap (by rest) found))
