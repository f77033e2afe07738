-- Marks of places: what becomes of them, and what they tell of wanted places.
use Rattle.std.proofs.Common.{◌≡◌, ◌≤◌, ◌<◌, ℕ, ◌+◌, ◌-◌, ◌/◌, ◌%◌, ◌*◌, ◌^◌, Bool, true, false, List, [], ◌∷◌, length, not, refl, sym, ap, subst, ◌∙◌, inl, inr, arith}
use Rattle.std.specs.Prelude.{◌==◌, ◌||◌, ◌⊎◌, nat_le, nat_lt, if◌then◌else◌, slice_index, slice_set}
use Rattle.std.specs.Int.{bit_at, w64}
use Rattle.std.specs.Int.RustNames.{bit_or}
use Rattle.std.specs.List.{list_any}
use Rattle.std.proofs.lemmas.Bool.{and_parts, cases_eq}
use Rattle.std.proofs.lemmas.Bool.Decides.{nat_tests}
use Rattle.std.proofs.lemmas.List.{get_or-set_same, get_or-set_other}
use Rattle.std.proofs.lemmas.List.Elements.{All-head, All-tail}
use Rattle.std.proofs.lemmas.Nat.Bits.{bit_at-zero, bit_at_set_same, bit_at_set_other}
use Rattle.bpf_origin.specs.declared.place.Place.{Place}
use Rattle.bpf_origin.specs.declared.place.Place.TheVariants.{Register, Word, Byte}
use Rattle.bpf_origin.specs.declared.place.Part.{Part}
use Rattle.bpf_origin.specs.declared.place.Part.TheVariants as part
use Rattle.bpf_origin.specs.Marks.{byte_mark, mark_of, is_marked, AreMarked}
use Rattle.bpf_origin.specs.Places.{same, has}
use Rattle.bpf_origin.specs.Wanted.{is_in, is_among, are_hit, spared}

-- A mark that is set or cleared, and what becomes of the others.
low : (mark : ℕ) → mark % 64 < 64
low mark = omega arith

pub set_there : (words : List ℕ) (mark v : ℕ) → mark / 64 < length words → is_marked (slice_set words (mark / 64) (bit_or v (1 * 2 ^ (mark % 64) % 2 ^ 64))) mark ≡ true
set_there words mark v within =
    ap (λ w. bit_at w (mark % 64) == 1) (get_or-set_same words (mark / 64) (bit_or v (1 * 2 ^ (mark % 64) % 2 ^ 64)) 0 within)
    ∙ ap (λ b. b == 1) (bit_at_set_same w64 v (mark % 64) (low mark))

pub set_kept : (words : List ℕ) (mark v other : ℕ) → mark / 64 < length words → v ≡ slice_index words (mark / 64) → is_marked words other ≡ true → is_marked (slice_set words (mark / 64) (bit_or v (1 * 2 ^ (mark % 64) % 2 ^ 64))) other ≡ true
set_kept words mark v other within is was = by_word (cases_eq (other / 64) (mark / 64))
  where
    by_bit : (other / 64 ≡ mark / 64) → (other % 64 ≡ mark % 64) ⊎ (other % 64 ≡ mark % 64 → ⊥) → is_marked (slice_set words (mark / 64) (bit_or v (1 * 2 ^ (mark % 64) % 2 ^ 64))) other ≡ true
    by_bit e (inl b) =
        ap (λ k. bit_at (slice_index (slice_set words (mark / 64) (bit_or v (1 * 2 ^ (mark % 64) % 2 ^ 64))) k) (other % 64) == 1) e
        ∙ ap (λ k. bit_at (slice_index (slice_set words (mark / 64) (bit_or v (1 * 2 ^ (mark % 64) % 2 ^ 64))) (mark / 64)) k == 1) b
        ∙ set_there words mark v within
    by_bit e (inr b) =
        ap (λ k. bit_at (slice_index (slice_set words (mark / 64) (bit_or v (1 * 2 ^ (mark % 64) % 2 ^ 64))) k) (other % 64) == 1) e
        ∙ ap (λ w. bit_at w (other % 64) == 1) (get_or-set_same words (mark / 64) (bit_or v (1 * 2 ^ (mark % 64) % 2 ^ 64)) 0 within)
        ∙ ap (λ k. k == 1) (bit_at_set_other w64 v (mark % 64) (low mark) (other % 64) b)
        ∙ ap (λ w. bit_at w (other % 64) == 1) is
        ∙ ap (λ k. bit_at (slice_index words k) (other % 64) == 1) (sym e)
        ∙ was

    by_word : (other / 64 ≡ mark / 64) ⊎ (other / 64 ≡ mark / 64 → ⊥) → is_marked (slice_set words (mark / 64) (bit_or v (1 * 2 ^ (mark % 64) % 2 ^ 64))) other ≡ true
    by_word (inl e) = by_bit e (cases_eq (other % 64) (mark % 64))
    by_word (inr e) =
        ap (λ w. bit_at w (other % 64) == 1) (get_or-set_other words (mark / 64) (other / 64) (bit_or v (1 * 2 ^ (mark % 64) % 2 ^ 64)) 0 e)
        ∙ was

pub cleared_kept : (words : List ℕ) (mark other : ℕ) → mark / 64 < length words → is_marked words other ≡ false → is_marked (slice_set words (mark / 64) 0) other ≡ false
cleared_kept words mark other within was = by_word (cases_eq (other / 64) (mark / 64))
  where
    by_word : (other / 64 ≡ mark / 64) ⊎ (other / 64 ≡ mark / 64 → ⊥) → is_marked (slice_set words (mark / 64) 0) other ≡ false
    by_word (inl e) =
        ap (λ k. bit_at (slice_index (slice_set words (mark / 64) 0) k) (other % 64) == 1) e
        ∙ ap (λ w. bit_at w (other % 64) == 1) (get_or-set_same words (mark / 64) 0 0 within)
        ∙ ap (λ k. k == 1) (bit_at-zero (other % 64))
    by_word (inr e) = ap (λ w. bit_at w (other % 64) == 1) (get_or-set_other words (mark / 64) (other / 64) 0 0 e) ∙ was

-- Where all of some places are marked, one whose mark isn't set is none of them.
pub none_marked : (f : Place → Bool) (words : List ℕ) (places : List Place) → AreMarked words places → ((p : Place) → f p ≡ true → is_marked words (mark_of p) ≡ false) → list_any f places ≡ false
none_marked f words [] marked none = refl
none_marked f words (p ∷ ps) marked none =
    by_test (f p) refl (none_marked f words ps (All-tail (λ q. is_marked words (mark_of q) ≡ true) p ps marked) none)
  where
    by_test : (b : Bool) → f p ≡ b → list_any f ps ≡ false → (b || list_any f ps) ≡ false
    by_test true e rest =
        let here = All-head (λ q. is_marked words (mark_of q) ≡ true) p ps marked in
        let missing = none p e in
        cc
    by_test false e rest = rest

-- A place is one of a part's with its mark.
eq_is : (m n : ℕ) → (m == n) ≡ true → m ≡ n
eq_is m n e = grind (arith, nat_tests)

pub same_mark : (p q : Place) → same p q ≡ true → mark_of p ≡ mark_of q
same_mark (Register d r) (Register e s) h =
    let two = and_parts (d == e) (r == s) h in
    ap (λ k. mark_of (Register k r)) (eq_is d e two.0) ∙ ap (λ k. mark_of (Register e k)) (eq_is r s two.1)
same_mark (Word i) (Word j) h = ap (λ k. mark_of (Word k)) (eq_is i j h)
same_mark (Byte a) (Byte b) h = ap (λ k. mark_of (Byte k)) (eq_is a b h)
same_mark (Register d r) (Word j) h = cc
same_mark (Register d r) (Byte b) h = cc
same_mark (Word i) (Register e s) h = cc
same_mark (Word i) (Byte b) h = cc
same_mark (Byte a) (Register e s) h = cc
same_mark (Byte a) (Word j) h = cc

pub one_unmarked : (words : List ℕ) (places : List Place) (p : Place) (mark : ℕ) → AreMarked words places → mark ≡ mark_of p → is_marked words mark ≡ false → is_in p places ≡ false
one_unmarked words places p mark marked is missing =
    none_marked (same p) words places marked (λ q e. ap (is_marked words) (sym (is ∙ same_mark p q e)) ∙ missing)

-- Bytes of which none is marked.
abbrev pub AreUnmarked : List ℕ → ℕ → ℕ → Type 0
AreUnmarked words a n = (k : ℕ) → k < n → is_marked words (byte_mark ((a + k) % 2 ^ 64)) ≡ false

in_run : (words : List ℕ) (a n : ℕ) → AreUnmarked words a n → (p : Place) → has (part.Bytes a n) p ≡ true → is_marked words (mark_of p) ≡ false
in_run words a n missing (Byte b) h =
    let two = and_parts (nat_le a b) (nat_lt b (a + n)) h in
    let first : a ≤ b = grind (arith, nat_tests) in
    let last : b < a + n = grind (arith, nat_tests) in
    let at : a + (b - a) ≡ b = omega (arith, first) in
    subst (λ c. is_marked words (byte_mark (c % 2 ^ 64)) ≡ false) at (missing (b - a) (omega (arith, first, last)))
in_run words a n missing (Word i) h = cc
in_run words a n missing (Register d r) h = cc

pub run_unmarked : (words : List ℕ) (places : List Place) (a n : ℕ) → AreMarked words places → AreUnmarked words a n → list_any (has (part.Bytes a n)) places ≡ false
run_unmarked words places a n marked missing = none_marked (has (part.Bytes a n)) words places marked (in_run words a n missing)

-- A move hits a wanted place if one of the parts that it wrote does.
any_none : {A : Type 0} (xs : List A) → false ≡ list_any (λ (x : A). false) xs
any_none [] = refl
any_none (x ∷ xs) = any_none xs

any_either : {A : Type 0} (f g : A → Bool) (xs : List A) → (list_any f xs || list_any g xs) ≡ list_any (λ x. f x || g x) xs
any_either f g [] = refl
any_either f g (x ∷ xs) = by_test (f x) (g x) (list_any f xs) (list_any g xs) (list_any (λ y. f y || g y) xs) (any_either f g xs)
  where
    by_test : (a b c d e : Bool) → (c || d) ≡ e → ((a || c) || (b || d)) ≡ ((a || b) || e)
    by_test true b c d e h = refl
    by_test false true true d e h = refl
    by_test false true false d e h = refl
    by_test false false c d e h = h

pub hits : (parts : List Part) (places : List Place) → list_any (λ q. list_any (has q) places) parts ≡ are_hit parts places
hits [] places = any_none places
hits (q ∷ qs) places =
    ap (λ b. list_any (has q) places || b) (hits qs places) ∙ any_either (has q) (is_among qs) places

-- Of places that are not hit none goes.
pub none_spared : (parts : List Part) (places : List Place) → are_hit parts places ≡ false → places ≡ spared parts places
none_spared parts [] e = refl
none_spared parts (p ∷ ps) e = by_test (is_among parts p) e (none_spared parts ps)
  where
    by_test : (b : Bool) → (b || are_hit parts ps) ≡ false → (are_hit parts ps ≡ false → ps ≡ spared parts ps) → p ∷ ps ≡ (if not b then p ∷ spared parts ps else spared parts ps)
    by_test true h rest = cc
    by_test false h rest = ap (λ qs. p ∷ qs) (rest h)
