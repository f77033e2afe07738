-- A numeral read digit by digit.
use Rattle.std.proofs.Common.{ℕ, ◌≡◌, ◌+◌, ◌*◌, ◌^◌, ◌<◌, ◌≤◌, List, length, take, get_or, Some, None, ap, sym, refl, ◌∙◌, arith}
use Rattle.std.specs.Str.Parse.{digits_value}
use Rattle.std.specs.Char.{digit_value}
use Rattle.std.proofs.lemmas.Bool.{le-ltb, lt-ltb}
use Rattle.std.proofs.lemmas.List.{take_all}
use Rattle.std.proofs.lemmas.Int.Digits.{digits_value_more}
use Rattle.std.proofs.lemmas.Str.Parse.{digits_value-take-le}
use Rattle.counted_io.specs.Numerals.{as_u64}

-- the value of the first i digits
pub record Reads (radix : ℕ) (s : List ℕ) (i value : ℕ) : Type 0 where
  pub so_far : value ≡ digits_value radix (take i s)
  pub fits : value < 2 ^ 64

-- one digit more
value-more : (radix : ℕ) (s : List ℕ) (i value r : ℕ) → i < length s → Reads radix s i value → r ≡ radix
    → value * r + digit_value (get_or s i 0) ≡ digits_value radix (take (i + 1) s)
value-more radix s i value r inside reads same = rw (reads.so_far, same) (sym (digits_value_more radix s i inside))

pub Reads-more : (radix : ℕ) (s : List ℕ) (i value r next : ℕ) → i < length s → Reads radix s i value → r ≡ radix
    → next ≡ value * r + digit_value (get_or s i 0) → next < 2 ^ 64 → Reads radix s (i + 1) next
Reads-more radix s i value r next inside reads same is fits =
    record { so_far = is ∙ value-more radix s i value r inside reads same; fits = fits }

-- with one digit more the value is too large, and so is that of all of them
pub Reads-large : (radix : ℕ) (s : List ℕ) (i value r : ℕ) → 1 ≤ radix → i < length s → Reads radix s i value → r ≡ radix
    → 2 ^ 64 ≤ value * r + digit_value (get_or s i 0) → None ≡ as_u64 (digits_value radix s)
Reads-large radix s i value r positive inside reads same large =
    let more = value-more radix s i value r inside reads same in
    rw (le-ltb (digits_value radix s) (2 ^ 64) (omega (arith, more, large, digits_value-take-le radix s (i + 1) positive))) refl

-- all digits
pub Reads-all : (radix : ℕ) (s : List ℕ) (i value : ℕ) → length s ≤ i → Reads radix s i value → Some value ≡ as_u64 (digits_value radix s)
Reads-all radix s i value end reads =
    let is : value ≡ digits_value radix s = reads.so_far ∙ ap (digits_value radix) (take_all i s end) in
    rw (← is, lt-ltb value (2 ^ 64) reads.fits) refl
