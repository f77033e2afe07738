-- Names in strings that stand in two files.
use Rattle.std.proofs.Common.{◌≡◌, ◌<◌, ◌≤◌, ◌⊎◌, inl, inr, ℕ, zero, suc, ◌+◌, ◌-◌, ◌==◌, nat_lt, Bool, true, false, List, length, get_or, refl, sym, ap, ◌∙◌, arith}
use Rattle.std.specs.Prelude.{◌&&◌, codes, slice_range}
use Rattle.std.specs.Str.{bytes_eq}
use Rattle.std.proofs.lemmas.Bool.Decides.{nat_tests}
use Rattle.std.proofs.lemmas.Grind.{same_number_lists}
use Rattle.std.proofs.lemmas.Slice.Eq.{bytes_eq-Decides}
use Rattle.bpf_link.specs.Sections.{name_at}
use Rattle.bpf_link_laws.specs.Files.{IsText}
use Rattle.bpf_link_laws.proofs.Pieces.{slice_at, slice_length}

pub less : (a b : ℕ) → a < b → nat_lt a b ≡ true
less a b h = grind (arith, nat_tests)

-- the bytes of a name and the one behind it are the same in both
name_inside : (xs ys : List ℕ) (i j : ℕ) (name : List ℕ) → ((k : ℕ) → k < length name + 1 → get_or xs (i + k) 0 ≡ get_or ys (j + k) 0)
    → i + length name < length xs → j + length name < length ys → name_at xs i name ≡ name_at ys j name
name_inside xs ys i j name same here there =
    let one : length (slice_range xs i (i + length name)) ≡ i + length name - i = slice_length xs i (i + length name) (omega arith) (omega arith) in
    let two : length (slice_range ys j (j + length name)) ≡ j + length name - j = slice_length ys j (j + length name) (omega arith) (omega arith) in
    let each : (k : ℕ) → k < length (slice_range xs i (i + length name)) → get_or (slice_range xs i (i + length name)) k 0 ≡ get_or (slice_range ys j (j + length name)) k 0 =
    λ k inside. slice_at xs i (i + length name) k (omega (arith, one)) ∙ same k (omega (arith, one)) ∙ sym (slice_at ys j (j + length name) k (omega (arith, one))) in
    let slice : slice_range xs i (i + length name) ≡ slice_range ys j (j + length name) =
    same_number_lists (slice_range xs i (i + length name)) (slice_range ys j (j + length name)) (omega (arith, one, two)) each in
    ap (λ b. b && (bytes_eq (slice_range xs i (i + length name)) name && (get_or xs (i + length name) 0 == 0))) (less (i + length name) (length xs) here)
    ∙ ap (λ s. bytes_eq s name && (get_or xs (i + length name) 0 == 0)) slice
    ∙ ap (λ z. bytes_eq (slice_range ys j (j + length name)) name && (z == 0)) (same (length name) (omega arith))
    ∙ ap (λ b. b && (bytes_eq (slice_range ys j (j + length name)) name && (get_or ys (j + length name) 0 == 0))) (sym (less (j + length name) (length ys) there))

and_false : (b : Bool) → (b && false) ≡ false
and_false true = refl
and_false false = refl

-- a zero stands where a name without zeros would
name_ends : (xs : List ℕ) (i z : ℕ) (name : List ℕ) → IsText name → i ≤ z → z < i + length name → get_or xs z 0 ≡ 0 → name_at xs i name ≡ false
name_ends xs i z name text low high ends = by (bytes_eq (slice_range xs i (i + length name)) name) refl
  where
    by : (b : Bool) → bytes_eq (slice_range xs i (i + length name)) name ≡ b → name_at xs i name ≡ false
    by false e =
        ap (λ b. nat_lt (i + length name) (length xs) && (b && (get_or xs (i + length name) 0 == 0))) e ∙ and_false (nat_lt (i + length name) (length xs))
    by true e =
        let same : slice_range xs i (i + length name) ≡ name = (bytes_eq-Decides (slice_range xs i (i + length name)) name).0 e in
        let place : i + (z - i) ≡ z = omega arith in
        let zero_here : get_or name (z - i) 0 ≡ 0 =
        ap (λ s. get_or s (z - i) 0) (sym same) ∙ slice_at xs i (i + length name) (z - i) (omega arith) ∙ ap (λ j. get_or xs j 0) place ∙ ends in
        let some : 0 < get_or name (z - i) 0 = text (z - i) (omega arith) in
        absurd (omega (arith, zero_here, some))

-- strings of two files: so many bytes that end with a zero
pub record Strings (xs : List ℕ) (o : ℕ) (ys : List ℕ) (p s : ℕ) : Type 0 where
  pub same : (k : ℕ) → k < s → get_or xs (o + k) 0 ≡ get_or ys (p + k) 0
  pub here : o + s ≤ length xs
  pub there : p + s ≤ length ys
  pub some : 0 < s
  pub ends : get_or xs (o + s - 1) 0 ≡ 0

which : (a s : ℕ) → (a < s) ⊎ (s ≤ a)
which a s = grind arith

pub name_same : (xs : List ℕ) (o : ℕ) (ys : List ℕ) (p s : ℕ) → Strings xs o ys p s → (k : ℕ) → k < s → (name : List ℕ) → IsText name → name_at xs (o + k) name ≡ name_at ys (p + k) name
name_same xs o ys p s strings k inside name text = by (which (k + length name) s)
  where
    by : (k + length name < s) ⊎ (s ≤ k + length name) → name_at xs (o + k) name ≡ name_at ys (p + k) name
    by (inl low) =
        let here = strings.here in
        let there = strings.there in
        name_inside xs ys (o + k) (p + k) name
        (λ j small. ap (λ i. get_or xs i 0) (omega arith) ∙ strings.same (k + j) (omega arith) ∙ ap (λ i. get_or ys i 0) (omega arith)) (omega arith) (omega arith)
    by (inr high) =
        let some = strings.some in
        let a : o + (s - 1) ≡ o + s - 1 = omega arith in
        let b : p + (s - 1) ≡ p + s - 1 = omega arith in
        let other : get_or ys (p + s - 1) 0 ≡ 0 =
        ap (λ i. get_or ys i 0) (sym b) ∙ sym (strings.same (s - 1) (omega arith)) ∙ ap (λ i. get_or xs i 0) a ∙ strings.ends in
        name_ends xs (o + k) (o + s - 1) name text (omega arith) (omega arith) strings.ends
        ∙ sym (name_ends ys (p + k) (p + s - 1) name text (omega arith) (omega arith) other)

positive : (n : ℕ) → 0 < suc n
positive n = omega arith

pub text_name : IsText (codes ".text")
text_name zero inside = positive 45
text_name (suc zero) inside = positive 115
text_name (suc (suc zero)) inside = positive 100
text_name (suc (suc (suc zero))) inside = positive 119
text_name (suc (suc (suc (suc zero)))) inside = positive 115
text_name (suc (suc (suc (suc (suc i))))) inside = absurd (beyond i inside)
  where
    beyond : (i : ℕ) → suc (suc (suc (suc (suc i)))) < 5 → ⊥
    beyond i h = omega arith
