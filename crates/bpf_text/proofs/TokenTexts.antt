-- Registers, labels and memory are read back.
use Rattle.std.proofs.Common.{ℕ, zero, suc, ◌≡◌, ◌<◌, ◌≤◌, ◌+◌, ◌-◌, ◌%◌, ◌^◌, ◌==◌, Bool, true, false, ◌&&◌, not, List, [], ◌∷◌, ◌++◌, length, refl, ap, ◌∙◌, arith, inl, inr, lit<, lit≤, nat_lt, nat_le, Some, option_map, slice_index, length-append}
use Rattle.std.proofs.Math.Seq.{get_or-append_seam, drop-append-add, take-append_seam}
use Rattle.std.proofs.lemmas.Bool.{eq-eqb}
use Rattle.counted_io.proofs.Naturals.{and-both}
use Rattle.bpf_isa.specs.Registers.{register_named, register_text}
use Rattle.std.specs.List.{list_all}
use Rattle.std.specs.Fmt.{decimal}
use Rattle.std.proofs.lemmas.Fmt.{decimal_by_steps, decimal_digit, decimal_step}
use Rattle.std.proofs.lemmas.Bool.Decides.{nat_tests, leb_tells}
use Rattle.bpf_text.specs.declared.read.term.Term.{Term}
use Rattle.bpf_text.specs.Characters.{is_name, is_name_byte}
use Rattle.counted_io.specs.Cuts.{trim}
use Rattle.counted_io.specs.Numerals.{natural}
use Rattle.bpf_text.specs.Scaffolding.Terms.{is_sign}
use Rattle.bpf_text.specs.Scaffolding.Tokens.{number_with, unsigned}
use Rattle.bpf_text.specs.Scaffolding.Terms.{memory, base_and_displacement, displacement}
use Rattle.bpf_text.specs.Operands.{label_text}
use Rattle.bpf_text.proofs.PlainTexts.{list_all-append, list_all-weaken, position_or_len-at}

-- a decimal digit
abbrev pub is_decimal : ℕ → Bool
is_decimal b = nat_le 48 b && nat_le b 57

is_decimal-digit : (d : ℕ) → d < 10 → is_decimal (48 + d) ≡ true
is_decimal-digit d h = grind (arith, nat_tests)

-- decimal digits
pub are_decimal : (n : ℕ) → n < 2 ^ 64 → list_all is_decimal (decimal n) ≡ true
are_decimal = decimal_by_steps (λ n ds. list_all is_decimal ds ≡ true)
    (λ n h. rw (is_decimal-digit n h) refl)
    (λ n ds h p. list_all-append is_decimal ds ((48 + n % 10) ∷ []) p (rw (is_decimal-digit (n % 10) (omega arith)) refl))

-- a byte that no byte of a text is, and that isn't 0
pub slice_index-other : (test : ℕ → Bool) (c : ℕ) (s : List ℕ) (i : ℕ)
    → ((b : ℕ) → test b ≡ true → (b == c) ≡ false) → (0 == c) ≡ false → list_all test s ≡ true
    → (slice_index s i == c) ≡ false
slice_index-other test c [] i none z p = z
slice_index-other test c (b ∷ s) zero none z p = none b (and-both (test b) (list_all test s) p).0
slice_index-other test c (b ∷ s) (suc i) none z p = slice_index-other test c s i none z (and-both (test b) (list_all test s) p).1

-- registers
register-digit : (b : ℕ) → is_decimal b ≡ true → register_named (114 ∷ b ∷ []) ≡ Some (b - 48)
register-digit b p = rw p refl

register-ten : (s : List ℕ) → s ≡ 49 ∷ 48 ∷ [] → register_named (114 ∷ s) ≡ Some 10
register-ten s e = rw e refl

pub register-text : (r : ℕ) → r ≤ 10 → register_named (register_text r) ≡ Some r
register-text r h = elim (leb_tells 10 r) [
  | inl t ↦
      let ten : r ≡ 10 = omega (arith, t.1) in
      rw ten (register-ten (decimal 10) (decimal_step 10 (lit≤ tt) (lit< tt) ∙ ap (λ d. d ++ 48 ∷ []) (decimal_digit 1 (lit< tt))))
  | inr t ↦
      let back : 48 + r - 48 ≡ r = omega arith in
      rw (decimal_digit r t.1) (register-digit (48 + r) (is_decimal-digit r t.1) ∙ ap Some back)
]

-- numbers in their ranges
pub unsigned-fits : (n : ℕ) → n < 2 ^ 32 → unsigned (number_with false n) ≡ Some n
unsigned-fits n h = let less : nat_lt n (2 ^ 32) ≡ true = grind (arith, nat_tests) in rw less refl

-- a name
pub name-label : (p : ℕ) → p < 2 ^ 64 → is_name (label_text p) ≡ true
name-label p h =
    let all = list_all-weaken is_decimal is_name_byte (decimal p) (λ b d. grind (arith, nat_tests)) (are_decimal p h) in
    rw all refl

-- a byte that closes no bracket, and one that is no sign
abbrev pub is_open : ℕ → Bool
is_open b = not (b == 93)

abbrev pub no_sign : ℕ → Bool
no_sign b = not (is_sign b)

open-close : (b : ℕ) → is_open b ≡ true → (b == 93) ≡ false
open-close b d = grind (arith, nat_tests)

no_sign-sign : (b : ℕ) → no_sign b ≡ true → is_sign b ≡ false
no_sign-sign b d = grind (arith, nat_tests)

-- numbers that are the same, and numbers that are not
same-eqb : (a b : ℕ) → a ≡ b → (a == b) ≡ true
same-eqb a b e = eq-eqb a b e

less-eqb : (a b : ℕ) → a < b → (a == b) ≡ false
less-eqb a b h = grind (arith, nat_tests)

-- a displacement behind a register
pub displacement-at : (reg : List ℕ) (sign : ℕ) (number : List ℕ) → list_all no_sign reg ≡ true → is_sign sign ≡ true
    → displacement (reg ++ sign ∷ number) ≡ option_map (number_with (sign == 45)) (natural (trim number))
displacement-at reg sign number none e =
    let here = position_or_len-at is_sign no_sign reg sign number no_sign-sign e none in
    let within : length reg < length (reg ++ sign ∷ number) = omega (arith, length-append reg (sign ∷ number)) in
    rw (
      here,
      less-eqb (length reg) (length (reg ++ sign ∷ number)) within,
      get_or-append_seam reg sign number 0,
      drop-append-add reg (sign ∷ number) 1,
    ) refl

pub memory-at : (inner : List ℕ) (m : Term) → list_all is_open inner ≡ true → base_and_displacement inner ≡ Some m
    → memory (91 ∷ (inner ++ 93 ∷ [])) ≡ Some m
memory-at inner m none read =
    let here = position_or_len-at (λ b. b == 93) is_open inner 93 [] open-close refl none in
    let end : 1 + length inner + 1 ≡ suc (length (inner ++ 93 ∷ [])) = omega (arith, length-append inner (93 ∷ [])) in
    rw (here, same-eqb (1 + length inner + 1) (suc (length (inner ++ 93 ∷ []))) end, take-append_seam inner (93 ∷ [])) read
