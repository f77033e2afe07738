-- The digits of a number in hexadecimal, from the last one on.
use Rattle.std.proofs.Common.{ℕ, ◌≡◌, ◌+◌, ◌-◌, ◌/◌, ◌%◌, ◌^◌, ◌<◌, ◌≤◌, suc, zero, List, [], ◌∷◌, take, drop, length, set, true, false, refl, sym, ◌∙◌, arith, add-one, sub-one, ◌==◌}
use Rattle.std.proofs.lemmas.Bool.Decides.{nat_tests}
use Rattle.std.proofs.lemmas.List.{drop-set, take_rest}
use Rattle.std.proofs.Math.Nat.{pow-suc}
use Rattle.std.specs.Fmt.{digits, digits_onto, digit_glyph}

-- the digits of n, of which there are k at most, and then those that are there
unfoldable pub digits_left : ℕ → ℕ → List ℕ → List ℕ
digits_left k n acc = digits_onto k 16 false n acc

-- all digits are left at first
pub digits_left-all : (n : ℕ) → digits_left 64 n [] ≡ digits 16 false n
unfolding digits_left digits
digits_left-all n = refl

-- a digit before those that are there
pub digits_left-more : (k n : ℕ) (acc : List ℕ) → 16 ≤ n
    → digits_left (k + 1) n acc ≡ digits_left k (n / 16) (digit_glyph false (n % 16) ∷ acc)
unfolding digits_left
digits_left-more k n acc h =
    let more : (n / 16 == 0) ≡ false = grind (arith, nat_tests) in rw (add-one, more)

-- the first digit
pub digits_left-last : (k n : ℕ) (acc : List ℕ) → n < 16 → digits_left (k + 1) n acc ≡ digit_glyph false n ∷ acc
unfolding digits_left
digits_left-last k n acc h =
    let none : (n / 16 == 0) ≡ true = grind (arith, nat_tests) in
    let rest : n % 16 ≡ n = omega arith in rw (add-one, none, rest)

-- a number of k digits or fewer, of which there is one more, has k - 1 or fewer before its last
pub div-lt-pow : (n k : ℕ) → 16 ≤ n → n < 16 ^ k → n / 16 < 16 ^ (k - 1)
div-lt-pow n zero low high = absurd (omega arith)
div-lt-pow n (suc k) low high = rw sub-one (let e = pow-suc 16 k in omega (arith, e))

-- a number of 16 or more has two digits at least
pub pow-two : (n k : ℕ) → 16 ≤ n → n < 16 ^ k → 2 ≤ k
pow-two n zero low high = absurd (omega arith)
pow-two n (suc zero) low high = absurd (omega arith)
pow-two n (suc (suc k)) low high = omega arith

-- a digit written before the others
pub digits_left-write : (start n d : ℕ) (bytes whole : List ℕ) → 1 ≤ start → start ≤ length bytes → 16 ≤ n
    → d ≡ digit_glyph false (n % 16) → digits_left (48 + start) n (drop start bytes) ≡ whole
    → digits_left (48 + (start - 1)) (n / 16) (drop (start - 1) (set bytes (start - 1) d)) ≡ whole
digits_left-write start n d bytes whole some room h e p =
    let at : (start - 1) + 1 ≡ start = omega arith in
    let fuel : 48 + (start - 1) + 1 ≡ 48 + start = omega arith in
    let step = digits_left-more (48 + (start - 1)) n (drop ((start - 1) + 1) bytes) h in
    rw (drop-set bytes (start - 1) d (omega arith), e)
    (sym step ∙ rw (at, fuel) p)

-- the first digit written before the others
pub digits_left-first : (start n d : ℕ) (bytes whole : List ℕ) → 1 ≤ start → start ≤ length bytes → n < 16
    → d ≡ digit_glyph false n → digits_left (48 + start) n (drop start bytes) ≡ whole
    → drop (start - 1) (set bytes (start - 1) d) ≡ whole
digits_left-first start n d bytes whole some room h e p =
    let at : (start - 1) + 1 ≡ start = omega arith in
    let fuel : 48 + (start - 1) + 1 ≡ 48 + start = omega arith in
    let step = digits_left-last (48 + (start - 1)) n (drop ((start - 1) + 1) bytes) h in
    rw (drop-set bytes (start - 1) d (omega arith), e)
    (sym step ∙ rw (at, fuel) p)

-- the end of a buffer of n bytes
pub take-drop-end : (bytes : List ℕ) (n k : ℕ) → length bytes ≡ n → take (n - k) (drop k bytes) ≡ drop k bytes
take-drop-end bytes n k e = rw (← e) (take_rest bytes k)
