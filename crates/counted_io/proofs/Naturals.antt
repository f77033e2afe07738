-- What is read of a number without a sign is what the grammar of numbers says.
use Rattle.std.proofs.Common.{ℕ, ◌≡◌, ◌<◌, ◌==◌, Bool, true, false, ◌&&◌, List, [], ◌∷◌, refl, ap, ◌∙◌, arith, inl, inr, nat_lt, Some, None, drop, if◌then◌else◌}
use Rattle.std.specs.List.{list_all}
use Rattle.std.specs.Str.Parse.{AllDigits, IsNumeral, digits_value}
use Rattle.std.specs.Char.{digit_value}
use Rattle.std.proofs.lemmas.Bool.{eqb-true}
use Rattle.std.proofs.lemmas.Bool.Decides.{nat_tests}
use Rattle.counted_io.specs.Numerals.{AreDigits, IsNatural, ReadsNaturals, numeral, natural, has_prefix}

-- two facts, and where one of them fails
pub and-both : (a b : Bool) → (a && b) ≡ true → (a ≡ true) × (b ≡ true)
and-both true b h = (refl, h)
and-both false b h = cc

and-false : (a b : Bool) → b ≡ false → (a && b) ≡ false
and-false true b h = h
and-false false b h = refl

-- digits as a number
pub list_all-AllDigits : (radix : ℕ) (s : List ℕ) → AllDigits radix s → list_all (λ d. nat_lt (digit_value d) radix) s ≡ true
list_all-AllDigits radix [] p = refl
list_all-AllDigits radix (b ∷ s) p =
    let here : nat_lt (digit_value b) radix ≡ true = less (digit_value b) radix p.0 in
    rw (here, list_all-AllDigits radix s p.1) refl where
      less : (a b : ℕ) → a < b → nat_lt a b ≡ true
      less a b h = grind (arith, nat_tests)

pub numeral-digits : (radix n : ℕ) (s : List ℕ) → IsNumeral radix s → digits_value radix s ≡ n → numeral radix s ≡ Some n
numeral-digits radix n [] known e = absurd (omega (arith, known.0))
numeral-digits radix n (c ∷ s) known e =
    let whole = list_all-AllDigits radix (c ∷ s) known.1 in
    rw whole (ap Some e)

-- a decimal digit is no byte that is none
pub digit-other : (c b : ℕ) → nat_lt (digit_value c) 10 ≡ false → nat_lt (digit_value b) 10 ≡ true → (b == c) ≡ false
digit-other c b misses passes = go (b == c) refl where
  go : (t : Bool) → (b == c) ≡ t → (b == c) ≡ false
  go true e = let same = eqb-true b c e in let clash = rw same at passes in cc
  go false e = e

-- a decimal number
pub decimal-no-prefix : (s : List ℕ) → AllDigits 10 s → has_prefix s ≡ false
decimal-no-prefix [] p = refl
decimal-no-prefix (a ∷ []) p = and-false (a == 48) false refl
decimal-no-prefix (a ∷ b ∷ s) p =
    let other = digit-other 120 b refl (and-both (nat_lt (digit_value b) 10) (list_all (λ d. nat_lt (digit_value d) 10) s) (list_all-AllDigits 10 (b ∷ s) p.1)).0 in
    and-false (a == 48) ((b == 120) && true) (rw other refl)

-- digits
AllDigits-list_all : (radix : ℕ) (s : List ℕ) → list_all (λ d. nat_lt (digit_value d) radix) s ≡ true → AllDigits radix s
AllDigits-list_all radix [] p = tt
AllDigits-list_all radix (b ∷ s) p =
    let parts = and-both (nat_lt (digit_value b) radix) (list_all (λ d. nat_lt (digit_value d) radix) s) p in
    (less (digit_value b) radix parts.0, AllDigits-list_all radix s parts.1) where
      less : (a b : ℕ) → nat_lt a b ≡ true → a < b
      less a b h = grind (arith, nat_tests)

numeral-says : (radix n : ℕ) (s : List ℕ) → numeral radix s ≡ Some n → AreDigits radix s n
numeral-says radix n [] e = cc
numeral-says radix n (c ∷ s) e = go (list_all (λ d. nat_lt (digit_value d) radix) (c ∷ s)) refl e where
  go : (t : Bool) → list_all (λ d. nat_lt (digit_value d) radix) (c ∷ s) ≡ t
      → (if t then Some (digits_value radix (c ∷ s)) else None) ≡ Some n → AreDigits radix (c ∷ s) n
  go true h e = let value : digits_value radix (c ∷ s) ≡ n = cc in ((omega arith, AllDigits-list_all radix (c ∷ s) h), value)
  go false h e = cc

-- a number without a sign
prefix-says : (s : List ℕ) → has_prefix s ≡ true → s ≡ 48 ∷ 120 ∷ drop 2 s
prefix-says [] h = cc
prefix-says (a ∷ []) h = let parts = and-both (a == 48) false h in cc
prefix-says (a ∷ b ∷ s) h =
    let parts = and-both (a == 48) ((b == 120) && true) h in
    rw (eqb-true a 48 parts.0, eqb-true b 120 (and-both (b == 120) true parts.1).0) refl

pub natural-says : (s : List ℕ) (n : ℕ) → natural s ≡ Some n → IsNatural s n
natural-says s n e = go (has_prefix s) refl e where
  go : (t : Bool) → has_prefix s ≡ t → (if t then numeral 16 (drop 2 s) else numeral 10 s) ≡ Some n → IsNatural s n
  go true h e = inr (drop 2 s, prefix-says s h, numeral-says 16 n (drop 2 s) e)
  go false h e = inl (numeral-says 10 n s e)

pub says-natural : (s : List ℕ) (n : ℕ) → IsNatural s n → natural s ≡ Some n
says-natural s n (inl known) = rw (decimal-no-prefix s known.0.1) (numeral-digits 10 n s known.0 known.1)
says-natural s n (inr known) = ap natural known.1 ∙ numeral-digits 16 n known.0 known.2.0 known.2.1

pub reads_naturals : (s : List ℕ) → ReadsNaturals s
reads_naturals s = record { says = natural-says s; said = says-natural s }
