-- Numbers without a sign, as listings and scripts write them. Their grammar is bpfdb's own choice.
use Rattle.std.specs.Prelude.{ℕ, ◌≡◌, ◌^◌, ◌⊎◌, Bool, nat_lt, if◌then◌else◌, List, [], ◌∷◌, ◌++◌, take, drop, codes, Option, Some, None}
use Rattle.std.specs.List.{list_all}
use Rattle.std.specs.Str.{bytes_eq}
use Rattle.std.specs.Str.Parse.{IsNumeral, digits_value}
use Rattle.std.specs.Char.{is_digit}

-- Digits of a radix, one at least and as many as there are, and their value.
abbrev pub AreDigits : ℕ → List ℕ → ℕ → Type 0
AreDigits radix s n = IsNumeral radix s × (digits_value radix s ≡ n)

-- A number without a sign: decimal digits, or 0x and hexadecimal digits of either case.
abbrev pub IsNatural : List ℕ → ℕ → Type 0
IsNatural s n = AreDigits 10 s n ⊎ ((digits : List ℕ) × (s ≡ codes "0x" ++ digits) × AreDigits 16 digits n)

-- Digits of a radix as a number.
abbrev pub numeral : ℕ → List ℕ → Option ℕ
numeral radix [] = None
numeral radix (c ∷ s) =
    if list_all (λ d. is_digit d radix) (c ∷ s) then Some (digits_value radix (c ∷ s)) else None

-- Whether a text begins with 0x.
abbrev pub has_prefix : List ℕ → Bool
has_prefix s = bytes_eq (take 2 s) (codes "0x")

-- The number without a sign that a text is.
abbrev pub natural : List ℕ → Option ℕ
natural s = if has_prefix s then numeral 16 (drop 2 s) else numeral 10 s

-- It is the number that the grammar says, and none where the grammar says none.
pub record ReadsNaturals (s : List ℕ) : Type 0 where
  pub says : (n : ℕ) → natural s ≡ Some n → IsNatural s n
  pub said : (n : ℕ) → IsNatural s n → natural s ≡ Some n

-- A number below 2^64.
abbrev pub as_u64 : ℕ → Option ℕ
as_u64 n = if nat_lt n (2 ^ 64) then Some n else None
