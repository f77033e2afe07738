-- Hexadecimal digits, by a table of their values.
use Rattle.std.proofs.Common.{◌≡◌, ◌<◌, ◌==◌, ◌&&◌, ℕ, zero, suc, Bool, true, List, slice_index, Some, None, unwrap_or, Result, Ok, Err, inl, inr, refl, sym, ap, arith}
use Rattle.std.proofs.lemmas.Bool.{and_parts, cases_lt, eqb-true}
use Rattle.std.specs.Result.{result_ok}
use Rattle.hex.specs.Hex.{hex_digit_value}
use Rattle.hex.specs.declared.error.FromHexError.{FromHexError}
use Rattle.input_texts.specs.declared.digits.TheConstants.{VALUES}

-- the value of a byte, or 64
abbrev pub value_or : ℕ → ℕ
value_or c = unwrap_or (hex_digit_value c) 64

-- whether the table has the values of the bytes below a number
abbrev has_values : List ℕ → ℕ → Bool
has_values table zero = true
has_values table (suc n) = (slice_index table n == value_or n) && has_values table n

has_values-at : (table : List ℕ) (n c : ℕ) → has_values table n ≡ true → c < n → slice_index table c ≡ value_or c
has_values-at table zero c all below = absurd (omega arith)
has_values-at table (suc n) c all below =
    let p = and_parts (slice_index table n == value_or n) (has_values table n) all in
    elim (cases_lt c n) [
      | inl less ↦ has_values-at table n c p.1 less
      | inr most ↦ let e : c ≡ n = omega arith in rw e (eqb-true (slice_index table n) (value_or n) p.0)
    ]

pub VALUES-at : (c : ℕ) → c < 256 → slice_index VALUES c ≡ value_or c
VALUES-at c below = has_values-at VALUES 256 c refl below

-- what a byte says of two digits
pub pair-is : (r : Result ℕ FromHexError) (v : ℕ) → Some v ≡ result_ok r → r ≡ Ok v
pair-is (Ok w) v e = let s : v ≡ w = cc in ap Ok (sym s)
pair-is (Err why) v e = absurd cc

pub pair-fails : (r : Result ℕ FromHexError) → None ≡ result_ok r → (why : FromHexError) × (r ≡ Err why)
pair-fails (Ok w) e = absurd cc
pair-fails (Err why) e = (why, refl)
