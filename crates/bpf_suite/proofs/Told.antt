-- The first of the lines that don't hold, and how many more there are.
use Rattle.std.proofs.Common.{ℕ, codes, decimal, ◌==◌, ◌≡◌, ◌≤◌, ◌<◌, ◌+◌, ◌-◌, Bool, true, false, not, List, [], ◌∷◌, ◌++◌, take, length, length-append, length-take, get_or, refl, sym, ap, ◌∙◌, arith}
use Rattle.std.specs.List.{filter}
use Rattle.std.proofs.lemmas.List.{append-nil, take-append-le, take_all, take_more}
use Rattle.bpf_steps.specs.State.{State}
use Rattle.std.proofs.lemmas.Bool.Decides.{nat_tests}
use Rattle.bpf_suite.specs.Reports.{AreTold, more_text, most_told}
use Rattle.bpf_suite.specs.Verdicts.{holds}
use Rattle.bpf_suite.specs.declared.cells.CellLine.{CellLine}
use Rattle.bpf_suite.specs.declared.values.WrongCells.{WrongCells}

-- one more of a list, of which the first k are kept
full : {X : Type 0} (k : ℕ) (xs : List X) (x : X) → length (take k xs) ≡ k → take k (xs ++ x ∷ []) ≡ take k xs
full k xs x e =
    let most : k ≤ length xs = omega (arith, e, length-take k xs) in
    take-append-le k xs (x ∷ []) most

room : {X : Type 0} (k : ℕ) (xs : List X) (x : X) → length (take k xs) < k → take k (xs ++ x ∷ []) ≡ take k xs ++ x ∷ []
room k xs x low =
    let short : length xs < k = omega (arith, low, length-take k xs) in
    take_all k (xs ++ x ∷ []) (omega (arith, short, length-append xs (x ∷ []))) ∙ ap (λ ys. ys ++ x ∷ []) (sym (take_all k xs (omega (arith, short))))

more-full : {X : Type 0} (k : ℕ) (xs : List X) (x : X) → length (take k xs) ≡ k → length (xs ++ x ∷ []) - k ≡ (length xs - k) + 1
more-full k xs x e = omega (arith, e, length-take k xs, length-append xs (x ∷ []))

more-room : {X : Type 0} (k : ℕ) (xs : List X) (x : X) → length (take k xs) < k → length (xs ++ x ∷ []) - k ≡ length xs - k
more-room k xs x low = omega (arith, low, length-take k xs, length-append xs (x ∷ []))

-- a line that is noted
pub told-full : (all : List CellLine) (line : CellLine) (old new : WrongCells) → AreTold all old → length old.told.items ≡ most_told
    → new.told.items ≡ old.told.items → new.more ≡ old.more + 1 → AreTold (all ++ line ∷ []) new
told-full all line old new h e same more =
    let long : length (take most_told all) ≡ most_told = sym (ap length h.first) ∙ e in
    record {
      first = same ∙ h.first ∙ sym (full most_told all line long);
      more = more ∙ ap (λ n. n + 1) h.more ∙ sym (more-full most_told all line long);
    }

pub told-more : (all : List CellLine) (line : CellLine) (old new : WrongCells) → AreTold all old → (length old.told.items ≡ most_told → ⊥)
    → new.told.items ≡ old.told.items ++ line ∷ [] → new.more ≡ old.more → AreTold (all ++ line ∷ []) new
told-more all line old new h other more same =
    let low : length (take most_told all) < most_told = below (length (take most_told all)) (λ e. other (ap length h.first ∙ e)) (omega (arith, length-take most_told all)) in
    record {
      first = more ∙ ap (λ xs. xs ++ line ∷ []) h.first ∙ sym (room most_told all line low);
      more = same ∙ h.more ∙ sym (more-room most_told all line low);
    }
  where
    below : (n : ℕ) → (n ≡ 16 → ⊥) → n ≤ 16 → n < 16
    below n other most = omega (arith, other, most)

-- the lines from the first to the next
filter-append : {X : Type 0} (p : X → Bool) (xs ys : List X) → filter p (xs ++ ys) ≡ filter p xs ++ filter p ys
filter-append p [] ys = refl
filter-append p (x ∷ xs) ys = go (p x) refl (filter-append p xs ys) where
  go : (b : Bool) → p x ≡ b → filter p (xs ++ ys) ≡ filter p xs ++ filter p ys → filter p (x ∷ xs ++ ys) ≡ filter p (x ∷ xs) ++ filter p ys
  go true e rest = rw e (ap (λ zs. x ∷ zs) rest)
  go false e rest = rw e rest

pub filter-more : {X : Type 0} (p : X → Bool) (xs : List X) (i : ℕ) (x : X) → i < length xs → x ≡ get_or xs i x
    → filter p (take i xs) ++ filter p (x ∷ []) ≡ filter p (take (i + 1) xs)
filter-more p xs i x low is =
    sym (ap (filter p) (take_more xs i x low ∙ ap (λ y. take i xs ++ y ∷ []) (sym is)) ∙ filter-append p (take i xs) (x ∷ []))

filter-short : {X : Type 0} (p : X → Bool) (xs : List X) → length (filter p xs) ≤ length xs
filter-short p [] = omega arith
filter-short p (x ∷ xs) = go (p x) refl (filter-short p xs) where
  go : (b : Bool) → p x ≡ b → length (filter p xs) ≤ length xs → length (filter p (x ∷ xs)) ≤ length (x ∷ xs)
  go true e rest = rw e (omega (arith, rest))
  go false e rest = rw e (omega (arith, rest))

pub few-more : (x : State) (lines : List CellLine) (i : ℕ) (told : WrongCells) → AreTold (filter (λ line. not (holds x line)) (take i lines)) told → told.more ≤ i
few-more x lines i told h = omega (arith, h.more, filter-short (λ line. not (holds x line)) (take i lines), length-take i lines)

pub filter-kept : (x : State) (line : CellLine) (all : List CellLine) → holds x line ≡ true → all ++ filter (λ l. not (holds x l)) (line ∷ []) ≡ all
filter-kept x line all e = ap (λ b. all ++ filter-one b) e ∙ append-nil all where
  filter-one : Bool → List CellLine
  filter-one b = Rattle.std.proofs.Common.cond (not b) (line ∷ []) []

pub filter-out : (x : State) (line : CellLine) (all : List CellLine) → holds x line ≡ false → all ++ filter (λ l. not (holds x l)) (line ∷ []) ≡ all ++ line ∷ []
filter-out x line all e = ap (λ b. all ++ Rattle.std.proofs.Common.cond (not b) (line ∷ []) []) e

-- some more
pub more_text-some : (n : ℕ) → (n ≡ 0 → ⊥) → more_text n ≡ codes "# more wrong cells: " ++ decimal n ++ codes "\n"
more_text-some n some = ap (λ b. Rattle.std.proofs.Common.cond b [] (codes "# more wrong cells: " ++ decimal n ++ codes "\n")) (no (n == 0) refl) where
  no : (b : Bool) → (n == 0) ≡ b → (n == 0) ≡ false
  no true e = absurd (some (grind (arith, nat_tests)))
  no false e = e
