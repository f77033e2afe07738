-- A map's shape stands where its number says.
use Rattle.std.proofs.Common.{◌≡◌, ◌≢◌, ◌<◌, ◌≤◌, ℕ, zero, suc, Bool, true, false, nat_lt, List, [], ◌∷◌, Some, length, map, get_or, count_by, refl, sym, ap, ◌∙◌, arith}
use Rattle.std.specs.Prelude.{if◌then◌else◌, slice_get}
use Rattle.std.specs.List.{list_all}
use Rattle.std.specs.Option.{option_map}
use Rattle.std.proofs.lemmas.Bool.Decides.{nat_tests}
use Rattle.std.proofs.lemmas.Grind.{common_steps}
use Rattle.std.proofs.lemmas.Option.{slice_get-map, slice_get-get_or, get_or_from_slice_get}
use Rattle.std.proofs.lemmas.List.Sorted.{length_permutation, Contains-permutation, IsNonDecreasingBy-from_sort, sum_by-IsPermutation}
use Rattle.bpf_isa.specs.declared.maps.MapShape.{MapShape}
use Rattle.bpf_link.specs.Patches.{map_number}
use Rattle.bpf_link.specs.Shapes.{is_array, shape_at, shapes_at, IsInOrder, AreNumbered}

-- none of a list is below a number
none_below : (v : ℕ) (xs : List ℕ) → ((i : ℕ) → i < length xs → v ≤ get_or xs i 0) → count_by (λ x. nat_lt x v) xs ≡ 0
none_below v [] high = refl
none_below v (x ∷ xs) high =
    let first : v ≤ x = high 0 (omega arith) in
    let rest : count_by (λ x. nat_lt x v) xs ≡ 0 = none_below v xs (λ i inside. high (suc i) (omega arith)) in
    grind (arith, common_steps)

-- an element of an ascending list stands after those below it
pub record StandsAt (v : ℕ) (xs : List ℕ) : Type 0 where
  pub inside : count_by (λ x. nat_lt x v) xs < length xs
  pub found : get_or xs (count_by (λ x. nat_lt x v) xs) 0 ≡ v

abbrev Rises : List ℕ → Type 0
Rises xs = (i j : ℕ) → i ≤ j → j < length xs → get_or xs i 0 ≤ get_or xs j 0

after_first : (v x : ℕ) (xs : List ℕ) → nat_lt x v ≡ true → StandsAt v xs → StandsAt v (x ∷ xs)
after_first v x xs below rest =
    let more : count_by (λ x. nat_lt x v) (x ∷ xs) ≡ suc (count_by (λ x. nat_lt x v) xs) = grind (arith, common_steps) in
    let inside = rest.inside in
    record { inside = omega (arith, more, inside); found = ap (λ n. get_or (x ∷ xs) n 0) more ∙ rest.found }

at_first : (v x k : ℕ) (xs : List ℕ) → nat_lt x v ≡ false → Rises (x ∷ xs) → k < length (x ∷ xs) → get_or (x ∷ xs) k 0 ≡ v → StandsAt v (x ∷ xs)
at_first v x k xs below up inside found =
    let high : v ≤ x = grind (arith, nat_tests) in
    let low : x ≤ get_or (x ∷ xs) k 0 = up 0 k (omega arith) inside in
    let same : x ≡ v = omega (arith, high, low, found) in
    let none : count_by (λ x. nat_lt x v) (x ∷ xs) ≡ 0 = none_below v (x ∷ xs) (λ i within. let above : x ≤ get_or (x ∷ xs) i 0 = up 0 i (omega arith) within in omega (arith, above, same)) in
    record { inside = omega (arith, none); found = ap (λ n. get_or (x ∷ xs) n 0) none ∙ same }

not_first : (v x k : ℕ) (xs : List ℕ) → nat_lt x v ≡ true → get_or (x ∷ xs) k 0 ≡ v → (j : ℕ) × (k ≡ suc j)
not_first v x zero xs below found = let low : x < v = grind (arith, nat_tests) in absurd (omega (arith, low, found))
not_first v x (suc j) xs below found = (j, refl)

by_first : (v x k : ℕ) (xs : List ℕ) (b : Bool) → nat_lt x v ≡ b → Rises (x ∷ xs) → k < length (x ∷ xs) → get_or (x ∷ xs) k 0 ≡ v
    → ((j : ℕ) → Rises xs → j < length xs → get_or xs j 0 ≡ v → StandsAt v xs) → StandsAt v (x ∷ xs)
by_first v x k xs false below up inside found rest = at_first v x k xs below up inside found
by_first v x k xs true below up inside found rest =
    let j = not_first v x k xs below found in
    after_first v x xs below
    (rest j.0 (λ i m low high. up (suc i) (suc m) (omega arith) (omega arith)) (omega (arith, j.1)) (sym (ap (λ n. get_or (x ∷ xs) n 0) j.1) ∙ found))

pub stands_at : (v : ℕ) (xs : List ℕ) (k : ℕ) → Rises xs → k < length xs → get_or xs k 0 ≡ v → StandsAt v xs
stands_at v [] k up inside found = absurd (omega arith)
stands_at v (x ∷ xs) k up inside found = by_first v x k xs (nat_lt x v) refl up inside found (stands_at v xs)

-- shapes that there are are those of all
told : (b : Bool) (shapes all : List MapShape) → shapes ≡ (if b then all else []) → shapes ≢ [] → shapes ≡ all
told true shapes all e some = e
told false shapes all e some = absurd (some e)

pub numbered : (definitions maps ordered : List ℕ) (shapes : List MapShape) → IsInOrder maps ordered → shapes ≡ shapes_at definitions ordered
    → AreNumbered definitions maps shapes
numbered definitions maps ordered shapes order e = λ place one some.
    let other = Contains-permutation maps ordered place order.same one in
    let found : get_or ordered other.0 0 ≡ place = get_or_from_slice_get ordered other.0 (get_or ordered other.0 place) 0 (slice_get-get_or ordered other.0 place other.1) ∙ other.2 in
    let up = IsNonDecreasingBy-from_sort (λ (x : ℕ). x) ordered order.ascending in
    let at = stands_at place ordered other.0 (λ i j low high. up i j 0 low high) other.1 found in
    let same : map_number maps place ≡ count_by (λ x. nat_lt x place) ordered = sym (sum_by-IsPermutation _ maps ordered order.same) in
    let all : shapes ≡ map (shape_at definitions) ordered = told (list_all (is_array definitions) ordered) shapes _ e some in
    let read : slice_get ordered (count_by (λ x. nat_lt x place) ordered) ≡ Some place = slice_get-get_or ordered _ 0 at.inside ∙ ap Some at.found in
    ap (λ (xs : List MapShape). slice_get xs (map_number maps place)) all
    ∙ ap (slice_get (map (shape_at definitions) ordered)) same
    ∙ slice_get-map (shape_at definitions) ordered (count_by (λ x. nat_lt x place) ordered)
    ∙ ap (option_map (shape_at definitions)) read

-- there are no more shapes than maps
pub few : (definitions maps ordered : List ℕ) → IsInOrder maps ordered → length (shapes_at definitions ordered) ≤ length maps
few definitions maps ordered o = by (list_all (is_array definitions) ordered)
  where
    size : length ordered ≡ length maps
    size = length_permutation maps ordered o.same

    by : (b : Bool) → length (if b then map (shape_at definitions) ordered else []) ≤ length maps
    by true = let same : length (map (shape_at definitions) ordered) ≡ length ordered = grind (arith, common_steps) in let whole = size in omega arith
    by false = omega arith
