-- Numbers as they may be written, and as they are read.
use Rattle.std.proofs.Common.{ℕ, ℤ, pos, negsuc, neg_ℤ, zero, suc, ◌≡◌, ◌<◌, ◌≤◌, ◌-◌, ◌%◌, ◌^◌, Bool, true, false, nat_lt, nat_le, List, refl, ap, sym, ◌∙◌, arith, inl, inr, subst, Some, w32}
use Rattle.std.specs.Int.{cast_signed}
use Rattle.std.proofs.lemmas.Bool.Decides.{nat_tests}
use Rattle.std.proofs.lemmas.Int.{to_z-of_z}
use Rattle.bpf_text.specs.declared.read.number.Number.{Number}
use Rattle.bpf_text.specs.Written.{IsInteger, IsInside, IsWithin, low_bits}
use Rattle.bpf_text.proofs.Grammar.{IsSigned, ReadsInside}
use Rattle.bpf_text.specs.Scaffolding.Tokens.{number_with, in_range, unsigned_of, immediate_of, wide_of, offset_of}

-- the whole number that was read
abbrev pub whole_of : Bool → ℕ → ℤ
whole_of true n = neg_ℤ (pos n)
whole_of false n = pos n

abbrev pub whole : Number → ℤ
whole number = whole_of number.negative number.magnitude

pub integer-of : (s : List ℕ) (number : Number) → IsSigned s number → IsInteger s (whole number)
integer-of s number (inl known) = inl (number.magnitude, known.1, ap (λ b. whole_of b number.magnitude) known.0)
integer-of s number (inr known) = inr (known.0, number.magnitude, known.1, known.3, ap (λ b. whole_of b number.magnitude) known.2)

pub number-of : (s : List ℕ) (z : ℤ) → IsInteger s z → (number : Number) × IsSigned s number × (z ≡ whole number)
number-of s z (inl known) = (number_with false known.0, inl (refl, known.1), known.2)
number-of s z (inr known) = (number_with true known.1, inr (known.0, known.2, refl, known.3), known.4)

pub inside-of : (s : List ℕ) (base : ℕ) (number : Number) → ReadsInside s base number → IsInside s base (whole number)
inside-of s base number (inl known) = inl (known.0, ap whole known.1)
inside-of s base number (inr (inl known)) =
    inr (inl (number.magnitude, (known.0, known.1, known.2, known.3, known.4), ap (λ b. whole_of b number.magnitude) known.5))
inside-of s base number (inr (inr known)) =
    inr (inr (number.magnitude, (known.0, known.1, known.2, known.3, known.4), ap (λ b. whole_of b number.magnitude) known.5))

pub inside-number : (s : List ℕ) (base : ℕ) (z : ℤ) → IsInside s base z → (number : Number) × ReadsInside s base number × (z ≡ whole number)
inside-number s base z (inl known) = (number_with false 0, inl (known.0, refl), known.1)
inside-number s base z (inr (inl known)) =
    let at = known.1 in (number_with false known.0, inr (inl (at.0, at.1, at.2, at.3, at.4, refl)), known.2)
inside-number s base z (inr (inr known)) =
    let at = known.1 in (number_with true known.0, inr (inr (at.0, at.1, at.2, at.3, at.4, refl)), known.2)

-- tests and ranges
lt-true : (a b : ℕ) → nat_lt a b ≡ true → a < b
lt-true a b h = grind (arith, nat_tests)

true-lt : (a b : ℕ) → a < b → nat_lt a b ≡ true
true-lt a b h = grind (arith, nat_tests)

le-true : (a b : ℕ) → nat_le a b ≡ true → a ≤ b
le-true a b h = grind (arith, nat_tests)

true-le : (a b : ℕ) → a ≤ b → nat_le a b ≡ true
true-le a b h = grind (arith, nat_tests)

in-range : {A : Type 0} (t : Bool) (x y : A) → in_range t x ≡ Some y → (t ≡ true) × (x ≡ y)
in-range true x y e = (refl, (let same : x ≡ y = cc in same))
in-range false x y e = cc

range-in : {A : Type 0} (t : Bool) (x y : A) → t ≡ true → x ≡ y → in_range t x ≡ Some y
range-in t x y h e = rw (h, e) refl

pub unsigned-range : (b : Bool) (n v : ℕ) → unsigned_of b n ≡ Some v → (n ≡ v) × (v < 2 ^ 32)
unsigned-range true n v e = cc
unsigned-range false n v e =
    let known = in-range (nat_lt n (2 ^ 32)) n v e in (known.1, subst (λ x. x < 2 ^ 32) known.1 (lt-true n (2 ^ 32) known.0))

-- the low bits of numbers in their ranges
pub low-32 : (n : ℕ) → n < 2 ^ 32 → n % 2 ^ 32 ≡ n
low-32 n h = omega arith

pub low-64 : (n : ℕ) → n < 2 ^ 64 → n % 2 ^ 64 ≡ n
low-64 n h = omega arith

pub minus-32 : (n : ℕ) → n < 2 ^ 31 → cast_signed w32 (2 ^ 32 - 1 - n % 2 ^ 32) ≡ negsuc n
minus-32 n h =
    let same : 2 ^ 32 - 1 - n % 2 ^ 32 ≡ 2 ^ 32 - suc n = omega arith in
    ap (cast_signed w32) same ∙ to_z-of_z w32 (negsuc n) (record { sfits = h })

minus-64 : (n : ℕ) → n < 2 ^ 63 → (2 ^ 64 - suc n) % 2 ^ 64 ≡ 2 ^ 64 - 1 - n % 2 ^ 64
minus-64 n h = omega arith

pub immediate-range : (b : Bool) (n : ℕ) (v : ℤ) → immediate_of b n ≡ Some v
    → IsWithin (2 ^ 31) (2 ^ 32) (whole_of b n) × (cast_signed w32 (low_bits 32 (whole_of b n)) ≡ v)
immediate-range false n v e =
    let known = in-range (nat_lt n (2 ^ 32)) (cast_signed w32 n) v e in
    let less = lt-true n (2 ^ 32) known.0 in (less, ap (cast_signed w32) (low-32 n less) ∙ known.1)
immediate-range true zero v e = (lit<zero, (in-range (nat_le 0 (2 ^ 31)) (pos 0) v e).1) where
  lit<zero : 0 < 2 ^ 32
  lit<zero = omega arith
immediate-range true (suc n) v e =
    let known = in-range (nat_le (suc n) (2 ^ 31)) (negsuc n) v e in
    let most = le-true (suc n) (2 ^ 31) known.0 in (omega (arith, most), minus-32 n (omega (arith, most)) ∙ known.1)

pub range-immediate : (b : Bool) (n : ℕ) (v : ℤ) → IsWithin (2 ^ 31) (2 ^ 32) (whole_of b n)
    → cast_signed w32 (low_bits 32 (whole_of b n)) ≡ v → immediate_of b n ≡ Some v
range-immediate false n v less e =
    range-in (nat_lt n (2 ^ 32)) (cast_signed w32 n) v (true-lt n (2 ^ 32) less) (sym (ap (cast_signed w32) (low-32 n less)) ∙ e)
range-immediate true zero v less e = range-in (nat_le 0 (2 ^ 31)) (pos 0) v refl e
range-immediate true (suc n) v less e =
    range-in (nat_le (suc n) (2 ^ 31)) (negsuc n) v (true-le (suc n) (2 ^ 31) (omega (arith, less))) (sym (minus-32 n less) ∙ e)

pub wide-range : (b : Bool) (n v : ℕ) → wide_of b n ≡ Some v
    → IsWithin (2 ^ 63) (2 ^ 64) (whole_of b n) × (low_bits 64 (whole_of b n) ≡ v)
wide-range false n v e =
    let known = in-range (nat_lt n (2 ^ 64)) n v e in
    let less = lt-true n (2 ^ 64) known.0 in (less, low-64 n less ∙ known.1)
wide-range true zero v e = (omega arith, (in-range (nat_le 0 (2 ^ 63)) ((2 ^ 64 - 0) % 2 ^ 64) v e).1)
wide-range true (suc n) v e =
    let known = in-range (nat_le (suc n) (2 ^ 63)) ((2 ^ 64 - suc n) % 2 ^ 64) v e in
    let most = le-true (suc n) (2 ^ 63) known.0 in (omega (arith, most), sym (minus-64 n (omega (arith, most))) ∙ known.1)

pub range-wide : (b : Bool) (n v : ℕ) → IsWithin (2 ^ 63) (2 ^ 64) (whole_of b n) → low_bits 64 (whole_of b n) ≡ v → wide_of b n ≡ Some v
range-wide false n v less e = range-in (nat_lt n (2 ^ 64)) n v (true-lt n (2 ^ 64) less) (sym (low-64 n less) ∙ e)
range-wide true zero v less e = range-in (nat_le 0 (2 ^ 63)) ((2 ^ 64 - 0) % 2 ^ 64) v refl e
range-wide true (suc n) v less e =
    range-in (nat_le (suc n) (2 ^ 63)) ((2 ^ 64 - suc n) % 2 ^ 64) v (true-le (suc n) (2 ^ 63) (omega (arith, less))) (minus-64 n less ∙ e)

pub offset-range : (b : Bool) (n : ℕ) (o : ℤ) → offset_of b n ≡ Some o → IsWithin (2 ^ 15) (2 ^ 15) (whole_of b n) × (whole_of b n ≡ o)
offset-range false n o e =
    let known = in-range (nat_lt n 32768) (pos n) o e in (lt-true n 32768 known.0, known.1)
offset-range true zero o e = (omega arith, (in-range (nat_le 0 32768) (pos 0) o e).1)
offset-range true (suc n) o e =
    let known = in-range (nat_le (suc n) 32768) (negsuc n) o e in
    let most = le-true (suc n) 32768 known.0 in (omega (arith, most), known.1)

pub range-offset : (b : Bool) (n : ℕ) → IsWithin (2 ^ 15) (2 ^ 15) (whole_of b n) → offset_of b n ≡ Some (whole_of b n)
range-offset false n less = range-in (nat_lt n 32768) (pos n) (pos n) (true-lt n 32768 less) refl
range-offset true zero less = refl
range-offset true (suc n) less = range-in (nat_le (suc n) 32768) (negsuc n) (negsuc n) (true-le (suc n) 32768 (omega (arith, less))) refl
