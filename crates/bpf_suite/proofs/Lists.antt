-- Elements of a list that pass a test.
use Rattle.std.proofs.Common.{ℕ, ◌≡◌, ◌<◌, ◌≤◌, ◌+◌, ◌-◌, append_assoc, take, length-drop, map, Bool, true, false, not, ◌&&◌, List, [], ◌∷◌, ◌++◌, drop, length, get_or, Option, Some, None, unwrap_or, cond, refl, sym, ap, subst, ◌∙◌, arith, nat_lt}
use Rattle.std.specs.List.{filter, filter_map, find, list_all, position, position_or_len, slice_range}
use Rattle.std.specs.List.{items_where_true}
use Rattle.std.specs.List.Retain.{IsFiltered, ReturnsInTurn}
use Rattle.std.proofs.lemmas.List.{drop_more, get_or-drop, take_more}
use Rattle.std.proofs.lemmas.List.Elements.{filter_map-append}
use Rattle.std.proofs.lemmas.List.Sums.{prefix_len-le-length}
use Rattle.std.proofs.lemmas.Bool.Decides.{nat_tests}

-- the index of the first, or the length where none does
pub unwrap_or-position : {X : Type 0} (p : X → Bool) (xs : List X) → unwrap_or (position p xs) (length xs) ≡ position_or_len p xs
unwrap_or-position p xs = go (nat_lt (position_or_len p xs) (length xs)) refl where
  go : (b : Bool) → nat_lt (position_or_len p xs) (length xs) ≡ b
      → unwrap_or (cond b (Some (position_or_len p xs)) None) (length xs) ≡ position_or_len p xs
  go true e = refl
  go false e = let most = prefix_len-le-length (λ x. not (p x)) xs in grind (arith, nat_tests)

-- the first of two lists
abbrev pub or_else : {X : Type 0} → Option X → Option X → Option X
or_else (Some x) next = Some x
or_else None next = next

find-first : {X : Type 0} (b : Bool) (x : X) (more next : Option X) → cond b (Some x) (or_else more next) ≡ or_else (cond b (Some x) more) next
find-first true x more next = refl
find-first false x more next = refl

pub find-append : {X : Type 0} (p : X → Bool) (xs ys : List X) → find p (xs ++ ys) ≡ or_else (find p xs) (find p ys)
find-append p [] ys = refl
find-append p (x ∷ xs) ys = ap (λ found. cond (p x) (Some x) found) (find-append p xs ys) ∙ find-first (p x) x (find p xs) (find p ys)

-- a part of a list with the element behind it
pub range-more : {X : Type 0} (xs : List X) (start at : ℕ) (d : X) → start ≤ at → at < length xs
    → slice_range xs start at ++ get_or xs at d ∷ [] ≡ slice_range xs start (at + 1)
range-more xs start at d low high =
    let next : (at + 1) - start ≡ (at - start) + 1 = omega (arith, low) in
    let here : start + (at - start) ≡ at = omega (arith, low) in
    let long : at - start < length (drop start xs) = grind (arith, length-drop) in
    let same : get_or (drop start xs) (at - start) d ≡ get_or xs at d = get_or-drop start xs (at - start) d ∙ ap (λ n. get_or xs n d) here in
    sym (ap (λ n. take n (drop start xs)) next ∙ take_more (drop start xs) (at - start) d long
    ∙ ap (λ x. take (at - start) (drop start xs) ++ x ∷ []) same)

-- what is gathered of one element more
pub filter_map-next : {X Y : Type 0} (h : X → Option Y) (done : List Y) (xs : List X) (i : ℕ) (d : X) → i < length xs
    → (done ++ filter_map h (get_or xs i d ∷ [])) ++ filter_map h (drop (i + 1) xs) ≡ done ++ filter_map h (drop i xs)
filter_map-next h done xs i d low =
    append_assoc done (filter_map h (get_or xs i d ∷ [])) (filter_map h (drop (i + 1) xs))
    ∙ ap (λ ys. done ++ ys) (sym (filter_map-append h (get_or xs i d ∷ []) (drop (i + 1) xs)) ∙ sym (ap (filter_map h) (drop_more xs i d low)))

filter-first : {X : Type 0} (p : X → Bool) (x : X) (xs : List X) → filter p (x ∷ []) ++ filter p xs ≡ filter p (x ∷ xs)
filter-first p x xs = go (p x) refl where
  go : (b : Bool) → p x ≡ b → filter p (x ∷ []) ++ filter p xs ≡ filter p (x ∷ xs)
  go true e = rw e refl
  go false e = rw e refl

pub filter-next : {X : Type 0} (p : X → Bool) (done xs : List X) (i : ℕ) (d : X) → i < length xs
    → (done ++ filter p (get_or xs i d ∷ [])) ++ filter p (drop (i + 1) xs) ≡ done ++ filter p (drop i xs)
filter-next p done xs i d low =
    append_assoc done (filter p (get_or xs i d ∷ [])) (filter p (drop (i + 1) xs))
    ∙ ap (λ ys. done ++ ys) (filter-first p (get_or xs i d) (drop (i + 1) xs) ∙ sym (ap (filter p) (drop_more xs i d low)))

-- all elements from a place on
pub all-yes : {X : Type 0} (p : X → Bool) (xs : List X) (i : ℕ) (d : X) → i < length xs → p (get_or xs i d) ≡ true
    → list_all p (drop (i + 1) xs) ≡ list_all p (drop i xs)
all-yes p xs i d low e = sym (ap (list_all p) (drop_more xs i d low) ∙ ap (λ b. b && list_all p (drop (i + 1) xs)) e)

pub all-no : {X : Type 0} (p : X → Bool) (xs : List X) (i : ℕ) (d : X) → i < length xs → p (get_or xs i d) ≡ false
    → list_all p (drop i xs) ≡ false
all-no p xs i d low e = ap (list_all p) (drop_more xs i d low) ∙ ap (λ b. b && list_all p (drop (i + 1) xs)) e

-- the first from a place on
pub find-yes : {X : Type 0} (p : X → Bool) (xs : List X) (i : ℕ) (d : X) → i < length xs → p (get_or xs i d) ≡ true
    → find p (drop i xs) ≡ Some (get_or xs i d)
find-yes p xs i d low e = ap (find p) (drop_more xs i d low) ∙ ap (λ b. cond b (Some (get_or xs i d)) (find p (drop (i + 1) xs))) e

pub find-no : {X : Type 0} (p : X → Bool) (xs : List X) (i : ℕ) (d : X) → i < length xs → p (get_or xs i d) ≡ false
    → find p (drop (i + 1) xs) ≡ find p (drop i xs)
find-no p xs i d low e = sym (ap (find p) (drop_more xs i d low) ∙ ap (λ b. cond b (Some (get_or xs i d)) (find p (drop (i + 1) xs))) e)

-- what a test leaves that always answers alike
kept-first : {X : Type 0} (test : X → Bool) (b : Bool) (bs : List Bool) (x : X) (xs : List X) → b ≡ test x
    → items_where_true bs xs ≡ filter test xs → items_where_true (b ∷ bs) (x ∷ xs) ≡ filter test (x ∷ xs)
kept-first test true bs x xs e rest = rw (← e) (ap (λ ys. x ∷ ys) rest)
kept-first test false bs x xs e rest = rw (← e) rest

kept : {X P : Type 0} (R : P → X → Bool → P → Type 0) (test : X → Bool) (f : P) → ((x : X) (b : Bool) (q : P) → R f x b q → (q ≡ f) × (b ≡ test x))
    → (bs : List Bool) (xs : List X) (q : P) → length bs ≡ length xs → ReturnsInTurn R f bs xs q → items_where_true bs xs ≡ filter test xs
kept R test f says [] [] q e h = refl
kept R test f says [] (x ∷ xs) q e h = absurd (omega (arith, e))
kept R test f says (b ∷ bs) [] q e h = absurd h
kept R test f says (b ∷ bs) (x ∷ xs) q e h =
    let said = says x b h.0 h.1 in
    let later = subst (λ g. ReturnsInTurn R g bs xs q) said.0 h.2 in
    let short : length bs ≡ length xs = omega (arith, e) in
    kept-first test b bs x xs said.1 (kept R test f says bs xs q short later)

pub filter-kept : {X P : Type 0} (R : P → X → Bool → P → Type 0) (test : X → Bool) (f : P)
    → ((x : X) (b : Bool) (q : P) → R f x b q → (q ≡ f) × (b ≡ test x)) → (xs ys : List X) → IsFiltered R f xs ys → ys ≡ filter test xs
filter-kept R test f says xs ys h = h.4 ∙ kept R test f says h.0 xs h.1 h.2 h.3

-- those that pass, of what a function makes of each
filter-map-first : {X Y : Type 0} (p : Y → Bool) (f : X → Y) (x : X) (xs : List X) (b : Bool) → p (f x) ≡ b
    → filter p (map f xs) ≡ map f (filter (λ y. p (f y)) xs) → filter p (map f (x ∷ xs)) ≡ map f (filter (λ y. p (f y)) (x ∷ xs))
filter-map-first p f x xs true e rest = rw e (ap (λ ys. f x ∷ ys) rest)
filter-map-first p f x xs false e rest = rw e rest

pub filter-map : {X Y : Type 0} (p : Y → Bool) (f : X → Y) (xs : List X) → filter p (map f xs) ≡ map f (filter (λ x. p (f x)) xs)
filter-map p f [] = refl
filter-map p f (x ∷ xs) = filter-map-first p f x xs (p (f x)) refl (filter-map p f xs)
