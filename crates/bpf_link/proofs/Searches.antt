-- One more turn of a search in a list.
use Rattle.std.proofs.Common.{◌≡◌, ◌<◌, ◌≤◌, ℕ, suc, ◌+◌, Bool, true, false, List, [], ◌∷◌, ◌++◌, length, take, get_or, refl, ap, ◌∙◌, sym, add-one, subst, arith}
use Rattle.std.specs.Prelude.{if◌then◌else◌}
use Rattle.std.proofs.lemmas.List.{append-nil, length-take-le, take_all, take_more}
use Rattle.bpf_link.specs.declared.sections.Found.{Found}
use Rattle.bpf_link.specs.declared.sections.Found.TheVariants.{Nothing, Only, Several}
use Rattle.bpf_link.specs.declared.layout.SectionHeader.{SectionHeader}
use Rattle.bpf_link.specs.declared.sections.Roles.{Roles}
use Rattle.bpf_link.specs.Objects.{Elf, section_at}
use Rattle.bpf_link.specs.Sections.{AreFound, found, found_with, FoundBelow, is_chosen, is_maps, is_symbols, is_text, only, places, roles_in, roles_with}

abbrev last : Bool → ℕ → List ℕ
last b i = if b then i ∷ [] else []

places_more : {A : Type 0} (test : A → Bool) (i : ℕ) (xs : List A) (x : A) → places test i (xs ++ x ∷ []) ≡ places test i xs ++ last (test x) (i + length xs)
places_more test i [] x = by (test x)
  where
    by : (b : Bool) → (if b then i ∷ [] else []) ≡ last b (i + 0)
    by true = ap (λ n. n ∷ []) (omega arith)
    by false = refl
places_more test i (y ∷ ys) x = by (test y) (places_more test (suc i) ys x)
  where
    by : (b : Bool) → places test (suc i) (ys ++ x ∷ []) ≡ places test (suc i) ys ++ last (test x) (suc i + length ys)
        → (if b then i ∷ places test (suc i) (ys ++ x ∷ []) else places test (suc i) (ys ++ x ∷ []))
        ≡ (if b then i ∷ places test (suc i) ys else places test (suc i) ys) ++ last (test x) (i + suc (length ys))
    by true rest = ap (λ ps. i ∷ ps) (rest ∙ ap (λ n. places test (suc i) ys ++ last (test x) n) (omega arith))
    by false rest = rest ∙ ap (λ n. places test (suc i) ys ++ last (test x) n) (omega arith)

only_more : (ps : List ℕ) (p : ℕ) → only (ps ++ p ∷ []) ≡ found_with (only ps) true p
only_more [] p = refl
only_more (i ∷ []) p = refl
only_more (i ∷ (j ∷ more)) p = refl

same : (f : Found) (i : ℕ) → f ≡ found_with f false i
same Nothing i = refl
same (Only j) i = refl
same Several i = refl

by_test : (b : Bool) (ps : List ℕ) (n i : ℕ) → 0 + n ≡ i → only (ps ++ last b (0 + n)) ≡ found_with (only ps) b i
by_test true ps n i e = ap (λ k. only (ps ++ k ∷ [])) e ∙ only_more ps i
by_test false ps n i e = ap only (append-nil ps) ∙ same (only ps) i

pub found_more : {A : Type 0} (test : A → Bool) (xs : List A) (i : ℕ) (d : A) (old new : Found) (holds : Bool)
    → i < length xs → old ≡ found test (take i xs) → holds ≡ test (get_or xs i d) → new ≡ found_with old holds i → new ≡ found test (take (i + 1) xs)
found_more test xs i d old new holds inside e h made =
    let size : length (take i xs) ≡ i = length-take-le i xs (omega arith) in
    made ∙ ap (λ f. found_with f holds i) e ∙ ap (λ b. found_with (found test (take i xs)) b i) h
    ∙ sym (by_test (test (get_or xs i d)) (places test 0 (take i xs)) (length (take i xs)) i (omega (arith, size)))
    ∙ ap only (sym (places_more test 0 (take i xs) (get_or xs i d)))
    ∙ ap (found test) (sym (take_more xs i d inside))

pub found_all : {A : Type 0} (test : A → Bool) (xs : List A) (i : ℕ) (old : Found) → length xs ≤ i → old ≡ found test (take i xs) → old ≡ found test xs
found_all test xs i old end e = e ∙ ap (found test) (take_all i xs end)

more_inside : (i : ℕ) (old : Found) (holds : Bool) → FoundBelow i old → FoundBelow (suc i) (found_with old holds i)
more_inside i Nothing true h = omega arith
more_inside i Nothing false h = tt
more_inside i (Only j) true h = tt
more_inside i (Only j) false h = omega arith
more_inside i Several true h = tt
more_inside i Several false h = tt

pub within_more : (i : ℕ) (old new : Found) (holds : Bool) → new ≡ found_with old holds i → FoundBelow i old → FoundBelow (i + 1) new
within_more i old new holds made h = subst (FoundBelow (i + 1)) (sym made) (subst (λ n. FoundBelow n (found_with old holds i)) (sym (add-one i)) (more_inside i old holds h))

pub roles_more : (object : Elf) (name : List ℕ) (i : ℕ) (section : SectionHeader) (old new : Roles) → i < length object.sections
    → old ≡ roles_in object name (take i object.sections) → section ≡ section_at object i → new ≡ roles_with object name old i section
    → new ≡ roles_in object name (take (i + 1) object.sections)
roles_more object name i section old new inside e s made =
    let one : (test : SectionHeader → Bool) (f : Found) → f ≡ found test (take i object.sections) → found_with f (test section) i ≡ found test (take (i + 1) object.sections) =
    λ test f h. found_more test object.sections i _ f _ (test section) inside h (ap test s) refl in
    made
    ∙ ap (λ f. record { chosen = f; text = found_with old.text (is_text object section) i; symbols = found_with old.symbols (is_symbols section) i; maps = found_with old.maps (is_maps object section) i })
    (one (is_chosen object name) old.chosen (ap (λ r. r.chosen) e))
    ∙ ap (λ f. record { chosen = found (is_chosen object name) (take (i + 1) object.sections); text = f; symbols = found_with old.symbols (is_symbols section) i; maps = found_with old.maps (is_maps object section) i })
    (one (is_text object) old.text (ap (λ r. r.text) e))
    ∙ ap (λ f. record { chosen = found (is_chosen object name) (take (i + 1) object.sections); text = found (is_text object) (take (i + 1) object.sections); symbols = f; maps = found_with old.maps (is_maps object section) i })
    (one is_symbols old.symbols (ap (λ r. r.symbols) e))
    ∙ ap (λ f. record { chosen = found (is_chosen object name) (take (i + 1) object.sections); text = found (is_text object) (take (i + 1) object.sections); symbols = found is_symbols (take (i + 1) object.sections); maps = f })
    (one (is_maps object) old.maps (ap (λ r. r.maps) e))

pub roles_within : (object : Elf) (name : List ℕ) (i : ℕ) (section : SectionHeader) (old new : Roles) → new ≡ roles_with object name old i section → AreFound i old → AreFound (i + 1) new
roles_within object name i section old new made within = record {
  chosen = within_more i old.chosen new.chosen _ (ap (λ r. r.chosen) made) within.chosen;
  text = within_more i old.text new.text _ (ap (λ r. r.text) made) within.text;
  symbols = within_more i old.symbols new.symbols _ (ap (λ r. r.symbols) made) within.symbols;
  maps = within_more i old.maps new.maps _ (ap (λ r. r.maps) made) within.maps;
}
