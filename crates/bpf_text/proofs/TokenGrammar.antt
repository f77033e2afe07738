-- What is read of registers and numbers is what their grammar says.
use Rattle.std.proofs.Common.{ℕ, ◌≡◌, ◌≤◌, ◌+◌, ◌-◌, ◌==◌, Bool, true, false, ◌&&◌, List, [], ◌∷◌, ◌++◌, refl, ap, sym, ◌∙◌, arith, inl, inr, lit<, lit≤, nat_lt, nat_le, Option, Some, None, option_map, drop, if◌then◌else◌}
use Rattle.std.specs.Fmt.{decimal}
use Rattle.std.specs.Char.{digit_value}
use Rattle.std.proofs.lemmas.Bool.{eqb-true}
use Rattle.std.proofs.lemmas.Bool.Decides.{nat_tests}
use Rattle.std.proofs.lemmas.Fmt.{decimal_digit, decimal_step}
use Rattle.counted_io.proofs.Naturals.{digit-other, list_all-AllDigits, natural-says, says-natural}
use Rattle.bpf_isa.specs.Registers.{register_named}
use Rattle.bpf_text.specs.declared.read.number.Number.{Number}
use Rattle.counted_io.specs.Numerals.{IsNatural, natural}
use Rattle.bpf_text.proofs.Grammar.{IsRegister, IsSigned}
use Rattle.bpf_text.specs.Scaffolding.Terms.{is_negative, signed_number}
use Rattle.bpf_text.specs.Scaffolding.Tokens.{number_with}
use Rattle.bpf_text.proofs.TokenTexts.{register-text, slice_index-other}

-- registers
decimal-ten : decimal 10 ≡ 49 ∷ 48 ∷ []
decimal-ten = decimal_step 10 (lit≤ tt) (lit< tt) ∙ ap (λ d. d ++ 48 ∷ []) (decimal_digit 1 (lit< tt))

abbrev is_one_digit : ℕ → ℕ → Bool
is_one_digit a b = a == 114 && nat_le 48 b && nat_le b 57

abbrev is_ten : ℕ → ℕ → ℕ → Bool
is_ten a b c = a == 114 && b == 49 && c == 48

one-digit : (a b : ℕ) → is_one_digit a b ≡ true → (a ≡ 114) × (48 ≤ b) × (b ≤ 57)
one-digit a b h = (grind (arith, nat_tests), grind (arith, nat_tests), grind (arith, nat_tests))

ten : (a b c : ℕ) → is_ten a b c ≡ true → (a ≡ 114) × (b ≡ 49) × (c ≡ 48)
ten a b c h = (grind (arith, nat_tests), grind (arith, nat_tests), grind (arith, nat_tests))

pub register-says : (s : List ℕ) (r : ℕ) → register_named s ≡ Some r → IsRegister s r
register-says [] r e = cc
register-says (a ∷ []) r e = cc
register-says (a ∷ b ∷ []) r e = go (is_one_digit a b) refl e where
  go : (t : Bool) → is_one_digit a b ≡ t → (if t then Some (b - 48) else None) ≡ Some r → IsRegister (a ∷ b ∷ []) r
  go true h e =
      let parts = one-digit a b h in
      let value : b - 48 ≡ r = cc in
      let back : 48 + r ≡ b = omega (arith, parts.1, value) in
      (omega (arith, parts.1, parts.2, value), rw (parts.0, decimal_digit r (omega (arith, parts.2, value)), back) refl)
  go false h e = cc
register-says (a ∷ b ∷ c ∷ []) r e = go (is_ten a b c) refl e where
  go : (t : Bool) → is_ten a b c ≡ t → (if t then Some 10 else None) ≡ Some r → IsRegister (a ∷ b ∷ c ∷ []) r
  go true h e =
      let parts = ten a b c h in
      let value : r ≡ 10 = cc in
      (omega (arith, value), rw (parts.0, parts.1, parts.2, value, decimal-ten) refl)
  go false h e = cc
register-says (a ∷ b ∷ c ∷ d ∷ s) r e = cc

pub says-register : (s : List ℕ) (r : ℕ) → IsRegister s r → register_named s ≡ Some r
says-register s r known = ap register_named known.1 ∙ register-text r known.0

-- a number with a sign or none
minus-says : (s : List ℕ) → is_negative s ≡ true → s ≡ 45 ∷ drop 1 s
minus-says [] h = cc
minus-says (a ∷ s) h = rw (eqb-true a 45 h) refl

pub map-says : (negative : Bool) (o : Option ℕ) (number : Number) → option_map (number_with negative) o ≡ Some number
    → (o ≡ Some number.magnitude) × (number.negative ≡ negative)
map-says negative None number e = cc
map-says negative (Some n) number e =
    let same : number_with negative n ≡ number = cc in
    (ap (λ x. Some x.magnitude) same, sym (ap (λ x. x.negative) same))

pub signed-says : (s : List ℕ) (number : Number) → signed_number s ≡ Some number → IsSigned s number
signed-says s number e = go (is_negative s) refl e where
  go : (t : Bool) → is_negative s ≡ t
      → (if t then option_map (number_with true) (natural (drop 1 s)) else option_map (number_with false) (natural s)) ≡ Some number
      → IsSigned s number
  go true h e =
      let parts = map-says true (natural (drop 1 s)) number e in
      inr (drop 1 s, minus-says s h, parts.1, natural-says (drop 1 s) number.magnitude parts.0)
  go false h e =
      let parts = map-says false (natural s) number e in
      inl (parts.1, natural-says s number.magnitude parts.0)

natural-no-minus : (s : List ℕ) (n : ℕ) → IsNatural s n → is_negative s ≡ false
natural-no-minus s n (inl known) =
    slice_index-other (λ d. nat_lt (digit_value d) 10) 45 s 0 (λ b d. digit-other 45 b refl d) refl (list_all-AllDigits 10 s known.0.1)
natural-no-minus s n (inr known) = ap is_negative known.1

pub says-signed : (s : List ℕ) (number : Number) → IsSigned s number → signed_number s ≡ Some number
says-signed s number (inl known) =
    rw (natural-no-minus s number.magnitude known.1, says-natural s number.magnitude known.1, ← known.0) refl
says-signed s number (inr known) =
    ap signed_number known.1 ∙ ap (option_map (number_with true)) (says-natural known.0 number.magnitude known.3)
    ∙ ap (λ b. Some (number_with b number.magnitude)) (sym known.2)
