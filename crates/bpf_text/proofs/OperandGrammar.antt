-- What is read of an operand is what its grammar says.
use Rattle.std.proofs.Common.{ℕ, suc, ◌≡◌, ◌<◌, ◌≤◌, ◌+◌, ◌-◌, ◌==◌, Bool, true, false, not, ◌↔◌, List, [], ◌∷◌, ◌++◌, take, drop, length, refl, ap, sym, ◌∙◌, arith, inl, inr, nat_lt, ◌⊎◌, Option, Some, None, option_map, option_and_then, slice_index, subst, if◌then◌else◌}
use Rattle.std.specs.List.{list_all, position_or_len, before_first, after_first}
use Rattle.std.proofs.Math.ListN.{drop_of_length-le}
use Rattle.std.proofs.Math.Seq.{take-length}
use Rattle.std.specs.Fmt.{decimal}
use Rattle.std.specs.Str.Parse.{AllDigits}
use Rattle.std.specs.Char.{digit_value}
use Rattle.std.proofs.lemmas.Bool.{eq-eqb, eqb-true}
use Rattle.std.proofs.lemmas.Bool.Decides.{nat_tests}
use Rattle.std.proofs.lemmas.List.Sums.{prefix_len-le-length}
use Rattle.counted_io.proofs.Naturals.{and-both, digit-other, list_all-AllDigits, natural-says, says-natural}
use Rattle.bpf_isa.specs.Registers.{register_named}
use Rattle.bpf_text.specs.declared.read.number.Number.{Number}
use Rattle.bpf_text.specs.declared.read.term.OperandForm.{OperandForm}
use Rattle.bpf_text.specs.declared.read.term.OperandForm.TheVariants as form
use Rattle.bpf_text.specs.declared.read.term.Term.{Term}
use Rattle.bpf_text.specs.declared.read.term.Term.TheVariants as term
use Rattle.counted_io.specs.Lines.{is_blank, trim_start}
use Rattle.bpf_text.specs.Characters.{is_name}
use Rattle.counted_io.specs.Cuts.{trim, trim_end, onto_trimmed, before}
use Rattle.counted_io.specs.Numerals.{IsNatural, natural}
use Rattle.bpf_text.proofs.Grammar.{IsRegister, IsSigned, Padded, ReadsDisplaced, ReadsInside, IsOperand}
use Rattle.bpf_text.specs.Scaffolding.Terms.{signed_number, is_sign, is_bracketed}
use Rattle.bpf_text.specs.Scaffolding.Tokens.{number_with}
use Rattle.bpf_text.specs.Scaffolding.Terms.{term_of, memory, base_and_displacement, displacement, register_or}
use Rattle.bpf_text.proofs.PlainTexts.{no_blank, not-true, and-join, list_all-append, list_all-weaken, before_first-at, before_first-none, position_or_len-none}
use Rattle.bpf_text.proofs.TokenTexts.{slice_index-other, is_decimal, are_decimal, is_open, no_sign, displacement-at, memory-at}
use Rattle.bpf_text.proofs.TokenGrammar.{register-says, says-register, signed-says, says-signed, map-says}

-- the first byte that passes, and what stands on both sides
abbrev pub Splits : (ℕ → Bool) → List ℕ → Type 0
Splits p s = (c : ℕ) × (s ≡ before_first p s ++ c ∷ after_first p s) × (p c ≡ true) × (slice_index s (position_or_len p s) ≡ c)

splits-next : (p : ℕ → Bool) (x : ℕ) (s : List ℕ) → p x ≡ false → Splits p s → Splits p (x ∷ s)
splits-next p x s e rest =
    let shifted : 1 + position_or_len p s ≡ suc (position_or_len p s) = omega arith in
    let next : suc (position_or_len p s) + 1 ≡ suc (position_or_len p s + 1) = omega arith in
    (rest.0, rw (e, shifted, next) (ap (λ r. x ∷ r) rest.1), rest.2, rw (e, shifted) rest.3)

pub split-first : (p : ℕ → Bool) (s : List ℕ) → position_or_len p s < length s → Splits p s
split-first p [] h = absurd (omega arith)
split-first p (x ∷ s) h = go (p x) refl h (λ less. split-first p s less) where
  go : (t : Bool) → p x ≡ t → position_or_len p (x ∷ s) < suc (length s) → (position_or_len p s < length s → Splits p s)
      → Splits p (x ∷ s)
  go true e h more = (x, rw e refl, e, rw e refl)
  go false e h more = let less = rw e at h in splits-next p x s e (more (omega (arith, less)))

-- blanks in front and at the end
pub trim_start-blank : (b : ℕ) (s : List ℕ) → is_blank b ≡ true → trim_start (b ∷ s) ≡ trim_start s
trim_start-blank b s e =
    let shifted : 1 + position_or_len (λ x. not (is_blank x)) s ≡ suc (position_or_len (λ x. not (is_blank x)) s) = omega arith in
    rw (e, shifted) refl

pub trim_start-other : (b : ℕ) (s : List ℕ) → is_blank b ≡ false → trim_start (b ∷ s) ≡ b ∷ s
trim_start-other b s e = rw e refl

pub trim_start-says : (s : List ℕ) → (front : List ℕ) × (s ≡ front ++ trim_start s) × (list_all is_blank front ≡ true)
trim_start-says [] = ([], refl, refl)
trim_start-says (b ∷ s) = go (is_blank b) refl (trim_start-says s) where
  go : (t : Bool) → is_blank b ≡ t → (front : List ℕ) × (s ≡ front ++ trim_start s) × (list_all is_blank front ≡ true)
      → (front : List ℕ) × (b ∷ s ≡ front ++ trim_start (b ∷ s)) × (list_all is_blank front ≡ true)
  go true e rest =
      (b ∷ rest.0, ap (λ r. b ∷ r) (rest.1 ∙ ap (λ r. rest.0 ++ r) (sym (trim_start-blank b s e))), rw (e, rest.2) refl)
  go false e rest = ([], sym (trim_start-other b s e), refl)

pub trim_end-says : (s : List ℕ) → (back : List ℕ) × (s ≡ trim_end s ++ back) × (list_all is_blank back ≡ true)
trim_end-says [] = ([], refl, refl)
trim_end-says (b ∷ s) = let rest = trim_end-says s in go (trim_end s) rest.0 rest.1 rest.2 where
  go : (t back : List ℕ) → s ≡ t ++ back → list_all is_blank back ≡ true
      → (rear : List ℕ) × (b ∷ s ≡ onto_trimmed b t ++ rear) × (list_all is_blank rear ≡ true)
  go [] back e all = here (is_blank b) refl where
    here : (v : Bool) → is_blank b ≡ v → (rear : List ℕ) × (b ∷ s ≡ onto_trimmed b [] ++ rear) × (list_all is_blank rear ≡ true)
    here true h = (b ∷ back, rw h (ap (λ r. b ∷ r) e), rw (h, all) refl)
    here false h = (back, rw h (ap (λ r. b ∷ r) e), all)
  go (c ∷ t) back e all = (back, ap (λ r. b ∷ r) e, all)

pub padded-trim : (Is : List ℕ → Type 0) (s : List ℕ) → Is (trim s) → Padded Is s
padded-trim Is s h =
    let start = trim_start-says s in
    let end = trim_end-says (trim_start s) in
    (start.0, trim s, end.0, start.1 ∙ ap (λ r. start.0 ++ r) end.1, start.2, h, end.2)

-- a text behind blanks
pub trim_start-blanks : (front s : List ℕ) → list_all is_blank front ≡ true → trim_start (front ++ s) ≡ trim_start s
trim_start-blanks [] s p = refl
trim_start-blanks (b ∷ front) s p =
    let parts = and-both (is_blank b) (list_all is_blank front) p in
    trim_start-blank b (front ++ s) parts.0 ∙ trim_start-blanks front s parts.1

trim_end-blanks : (back : List ℕ) → list_all is_blank back ≡ true → trim_end back ≡ []
trim_end-blanks [] p = refl
trim_end-blanks (b ∷ back) p =
    let parts = and-both (is_blank b) (list_all is_blank back) p in
    rw (trim_end-blanks back parts.1, parts.0) refl

trim_end-solid : (x back : List ℕ) → list_all no_blank x ≡ true → list_all is_blank back ≡ true → trim_end (x ++ back) ≡ x
trim_end-solid [] back p q = trim_end-blanks back q
trim_end-solid (b ∷ x) back p q =
    let parts = and-both (no_blank b) (list_all no_blank x) p in
    rw (trim_end-solid x back parts.1 q) (last x) where
      last : (x : List ℕ) → onto_trimmed b x ≡ b ∷ x
      last [] = rw (not-true (is_blank b) (and-both (no_blank b) _ p).0) refl
      last (c ∷ x) = refl

pub trim-padded : (front x back : List ℕ) → list_all is_blank front ≡ true → list_all no_blank x ≡ true
    → list_all is_blank back ≡ true → trim (front ++ (x ++ back)) ≡ x
trim-padded front [] back p q r =
    ap trim_end (trim_start-blanks front back p) ∙ none back r where
      none : (back : List ℕ) → list_all is_blank back ≡ true → trim back ≡ []
      none [] r = refl
      none (b ∷ back) r =
          let parts = and-both (is_blank b) (list_all is_blank back) r in
          ap trim_end (trim_start-blank b back parts.0) ∙ none back parts.1
trim-padded front (b ∷ x) back p q r =
    let parts = and-both (no_blank b) (list_all no_blank x) q in
    ap trim_end (trim_start-blanks front (b ∷ (x ++ back)) p ∙ trim_start-other b (x ++ back) (not-true (is_blank b) parts.0))
    ∙ trim_end-solid (b ∷ x) back q r

-- digits and letters
abbrev pub is_mark : ℕ → Bool
is_mark b = nat_lt (digit_value b) 36

mark-other : (c b : ℕ) → is_mark c ≡ false → is_mark b ≡ true → (b == c) ≡ false
mark-other c b misses passes = go (b == c) refl where
  go : (t : Bool) → (b == c) ≡ t → (b == c) ≡ false
  go true e = let same = eqb-true b c e in let clash = rw same at passes in cc
  go false e = e

mark-no-blank : (b : ℕ) → is_mark b ≡ true → no_blank b ≡ true
mark-no-blank b h = rw (mark-other 32 b refl h, mark-other 9 b refl h, mark-other 13 b refl h) refl

mark-no-sign : (b : ℕ) → is_mark b ≡ true → no_sign b ≡ true
mark-no-sign b h = rw (mark-other 43 b refl h, mark-other 45 b refl h) refl

mark-open : (b : ℕ) → is_mark b ≡ true → is_open b ≡ true
mark-open b h = rw (mark-other 93 b refl h) refl

decimal-mark : (b : ℕ) → is_decimal b ≡ true → is_mark b ≡ true
decimal-mark b h = grind (arith, nat_tests)

digits-marks : (radix : ℕ) (s : List ℕ) → radix ≤ 36 → AllDigits radix s → list_all is_mark s ≡ true
digits-marks radix [] h p = refl
digits-marks radix (b ∷ s) h p = and-join (is_mark b) (list_all is_mark s) (less (digit_value b) (omega (arith, p.0))) (digits-marks radix s h p.1) where
  less : (a : ℕ) → a < 36 → nat_lt a 36 ≡ true
  less a h = grind (arith, nat_tests)

pub register-marks : (s : List ℕ) (r : ℕ) → IsRegister s r → list_all is_mark s ≡ true
register-marks s r known =
    rw known.1 (list_all-weaken is_decimal is_mark (decimal r) decimal-mark (are_decimal r (let h = known.0 in omega (arith, h))))

pub natural-marks : (s : List ℕ) (n : ℕ) → IsNatural s n → list_all is_mark s ≡ true
natural-marks s n (inl known) = digits-marks 10 s (omega arith) known.0.1
natural-marks s n (inr known) = rw known.1 (digits-marks 16 known.0 (omega arith) known.2.0.1)

-- a padded register or number
marks-trim : (Is : List ℕ → Type 0) (s : List ℕ) → ((x : List ℕ) → Is x → list_all is_mark x ≡ true) → Padded Is s → Is (trim s)
marks-trim Is s marks known =
    let solid = list_all-weaken is_mark no_blank known.1 mark-no-blank (marks known.1 known.5) in
    subst Is (sym (ap trim known.3 ∙ trim-padded known.0 known.1 known.2 known.4 solid known.6)) known.5

pub padded-all : (test : ℕ → Bool) (Is : List ℕ → Type 0) (s : List ℕ) → ((b : ℕ) → is_blank b ≡ true → test b ≡ true)
    → ((b : ℕ) → is_mark b ≡ true → test b ≡ true) → ((x : List ℕ) → Is x → list_all is_mark x ≡ true) → Padded Is s
    → list_all test s ≡ true
padded-all test Is s blank mark marks known =
    rw known.3 (list_all-append test known.0 (known.1 ++ known.2) (list_all-weaken is_blank test known.0 blank known.4)
    (list_all-append test known.1 known.2 (list_all-weaken is_mark test known.1 mark (marks known.1 known.5))
    (list_all-weaken is_blank test known.2 blank known.6)))

blank-no-sign : (b : ℕ) → is_blank b ≡ true → no_sign b ≡ true
blank-no-sign b h = grind (arith, nat_tests)

blank-open : (b : ℕ) → is_blank b ≡ true → is_open b ≡ true
blank-open b h = grind (arith, nat_tests)

-- what stands in brackets
pub map-some : {A B : Type 0} (f : A → B) (o : Option A) (b : B) → option_map f o ≡ Some b → (a : A) × (o ≡ Some a) × (f a ≡ b)
map-some f None b e = cc
map-some f (Some a) b e = (a, refl, (let same : f a ≡ b = cc in same))

sign-of : (c : ℕ) → is_sign c ≡ true → ((c ≡ 43) × ((c == 45) ≡ false)) ⊎ ((c ≡ 45) × ((c == 45) ≡ true))
sign-of c h = go (c == 43) refl where
  go : (t : Bool) → (c == 43) ≡ t → ((c ≡ 43) × ((c == 45) ≡ false)) ⊎ ((c ≡ 45) × ((c == 45) ≡ true))
  go true e = let same = eqb-true c 43 e in inl (same, rw same refl)
  go false e = let same : (c == 45) ≡ true = rw e at h in inr (eqb-true c 45 same, same)

inside-says : (s : List ℕ) (base : ℕ) (number : Number) → base_and_displacement s ≡ Some (term.Memory base number)
    → ReadsInside s base number
inside-says s base number e = go (register_named (trim (before_first is_sign s))) refl e where
  go : (o : Option ℕ) → register_named (trim (before_first is_sign s)) ≡ o
      → option_and_then (λ b. option_map (term.Memory b) (displacement s)) o ≡ Some (term.Memory base number) → ReadsInside s base number
  go None h e = cc
  go (Some b) h e =
      let part = map-some (term.Memory b) (displacement s) (term.Memory base number) e in
      let same : b ≡ base = (let q = part.2 in cc) in
      let numbers : part.0 ≡ number = (let q = part.2 in cc) in
      let reg = register-says (trim (before_first is_sign s)) base ((h ∙ ap Some same)) in
      whole (position_or_len is_sign s == length s) refl reg (part.1 ∙ ap Some numbers) where
        whole : (t : Bool) → (position_or_len is_sign s == length s) ≡ t → IsRegister (trim (before_first is_sign s)) base
            → displacement s ≡ Some number → ReadsInside s base number
        whole true h reg e =
            let all : before_first is_sign s ≡ s =
            ap (λ n. take n s) (eqb-true (position_or_len is_sign s) (length s) h) ∙ take-length s in
            let none = rw h at e in
            inl (padded-trim (λ x. IsRegister x base) s (subst (λ x. IsRegister (trim x) base) all reg), (let q : number ≡ number_with false 0 = cc in q))
        whole false h reg e =
            let cut = split-first is_sign s (short h) in
            let rest = rw h at e in
            signed_number cut.0 (sign-of cut.0 cut.2) cut.1 (ap (λ c. c == 45) cut.3) rest where
              short : (position_or_len is_sign s == length s) ≡ false → position_or_len is_sign s < length s
              short h = let most = prefix_len-le-length (λ x. not (is_sign x)) s in grind (arith, nat_tests)

              signed_number : (c : ℕ) → ((c ≡ 43) × ((c == 45) ≡ false)) ⊎ ((c ≡ 45) × ((c == 45) ≡ true))
                  → s ≡ before_first is_sign s ++ c ∷ after_first is_sign s
                  → (slice_index s (position_or_len is_sign s) == 45) ≡ (c == 45)
                  → option_map (number_with (slice_index s (position_or_len is_sign s) == 45)) (natural (trim (after_first is_sign s)))
                  ≡ Some number → ReadsInside s base number
              signed_number c (inl k) cut byte rest =
                  let parts = map-says (slice_index s (position_or_len is_sign s) == 45) (natural (trim (after_first is_sign s))) number rest in
                  inr (inl (
                    before_first is_sign s,
                    after_first is_sign s,
                    cut ∙ ap (λ x. before_first is_sign s ++ x ∷ after_first is_sign s) k.0,
                    padded-trim (λ x. IsRegister x base) (before_first is_sign s) reg,
                    padded-trim (λ x. IsNatural x number.magnitude) (after_first is_sign s) (natural-says (trim (after_first is_sign s)) number.magnitude parts.0),
                    parts.1 ∙ byte ∙ k.1,
                  ))
              signed_number c (inr k) cut byte rest =
                  let parts = map-says (slice_index s (position_or_len is_sign s) == 45) (natural (trim (after_first is_sign s))) number rest in
                  inr (inr (
                    before_first is_sign s,
                    after_first is_sign s,
                    cut ∙ ap (λ x. before_first is_sign s ++ x ∷ after_first is_sign s) k.0,
                    padded-trim (λ x. IsRegister x base) (before_first is_sign s) reg,
                    padded-trim (λ x. IsNatural x number.magnitude) (after_first is_sign s) (natural-says (trim (after_first is_sign s)) number.magnitude parts.0),
                    parts.1 ∙ byte ∙ k.1,
                  ))

no_sign-sign : (b : ℕ) → no_sign b ≡ true → is_sign b ≡ false
no_sign-sign b h = not-true (is_sign b) h

same-eqb : (a b : ℕ) → a ≡ b → (a == b) ≡ true
same-eqb a b e = eq-eqb a b e

says-displaced : (negative : Bool) (sign : ℕ) (s : List ℕ) (base : ℕ) (number : Number) → is_sign sign ≡ true
    → (sign == 45) ≡ negative → ReadsDisplaced negative sign s base number
    → base_and_displacement s ≡ Some (term.Memory base number)
says-displaced negative sign s base number e same known =
    let a = known.0 in
    let b = known.1 in
    let none = padded-all no_sign (λ x. IsRegister x base) a blank-no-sign mark-no-sign (λ x h. register-marks x base h) known.3 in
    let reg = marks-trim (λ x. IsRegister x base) a (λ x h. register-marks x base h) known.3 in
    let number_text = marks-trim (λ x. IsNatural x number.magnitude) b (λ x h. natural-marks x number.magnitude h) known.4 in
    ap base_and_displacement known.2
    ∙ rw (
      before_first-at is_sign no_sign a sign b no_sign-sign e none,
      says-register (trim a) base reg,
      displacement-at a sign b none e,
      says-natural (trim b) number.magnitude number_text,
      same,
      ← known.5,
    ) refl

says-inside : (s : List ℕ) (base : ℕ) (number : Number) → ReadsInside s base number
    → base_and_displacement s ≡ Some (term.Memory base number)
says-inside s base number (inl known) =
    let none = padded-all no_sign (λ x. IsRegister x base) s blank-no-sign mark-no-sign (λ x h. register-marks x base h) known.0 in
    let reg = marks-trim (λ x. IsRegister x base) s (λ x h. register-marks x base h) known.0 in
    let whole : position_or_len is_sign s ≡ length s = position_or_len-none is_sign no_sign s no_sign-sign none in
    rw (
      before_first-none is_sign no_sign s no_sign-sign none,
      says-register (trim s) base reg,
      same-eqb (position_or_len is_sign s) (length s) whole,
      known.1,
    ) refl
says-inside s base number (inr (inl known)) = says-displaced false 43 s base number refl refl known
says-inside s base number (inr (inr known)) = says-displaced true 45 s base number refl refl known

-- memory
displaced-open : (negative : Bool) (sign : ℕ) (s : List ℕ) (base : ℕ) (number : Number) → is_open sign ≡ true
    → ReadsDisplaced negative sign s base number → list_all is_open s ≡ true
displaced-open negative sign s base number e known =
    let front = padded-all is_open (λ x. IsRegister x base) known.0 blank-open mark-open (λ x h. register-marks x base h) known.3 in
    let back = padded-all is_open (λ x. IsNatural x number.magnitude) known.1 blank-open mark-open
    (λ x h. natural-marks x number.magnitude h) known.4 in
    rw known.2 (list_all-append is_open known.0 (sign ∷ known.1) front (and-join (is_open sign) (list_all is_open known.1) e back))

-- an opening bracket in front, and the first closing one at the end
bracketed-says : (s : List ℕ) → is_bracketed s ≡ true → s ≡ 91 ∷ (before 93 (drop 1 s) ++ 93 ∷ [])
bracketed-says [] h = cc
bracketed-says (a ∷ s) h =
    let parts = and-both (a == 91) (position_or_len (λ b. b == 93) (a ∷ s) + 1 == suc (length s)) h in
    let first : a ≡ 91 = eqb-true a 91 parts.0 in
    let place : position_or_len (λ b. b == 93) (a ∷ s) + 1 ≡ suc (length s) = eqb-true _ _ parts.1 in
    let here : 1 + position_or_len (λ b. b == 93) s + 1 ≡ suc (length s) = rw first at place in
    let less : position_or_len (λ b. b == 93) s < length s = omega (arith, here) in
    let cut = split-first (λ b. b == 93) s less in
    let none : after_first (λ b. b == 93) s ≡ [] =
    drop_of_length-le s {i = position_or_len (λ b. b == 93) s + 1} (omega (arith, here)) in
    rw first (ap (λ r. 91 ∷ r) (cut.1 ∙ ap (λ r. before 93 s ++ cut.0 ∷ r) none
    ∙ ap (λ c. before 93 s ++ c ∷ []) (eqb-true cut.0 93 cut.2)))

-- what stands between them
pub bracketed-inside : (s : List ℕ) → is_bracketed s ≡ true → take (length s - 1 - 1) (drop 1 s) ≡ before 93 (drop 1 s)
bracketed-inside [] h = cc
bracketed-inside (a ∷ s) h =
    let parts = and-both (a == 91) (position_or_len (λ b. b == 93) (a ∷ s) + 1 == suc (length s)) h in
    let first : a ≡ 91 = eqb-true a 91 parts.0 in
    let place : position_or_len (λ b. b == 93) (a ∷ s) + 1 ≡ suc (length s) = eqb-true _ _ parts.1 in
    let here : 1 + position_or_len (λ b. b == 93) s + 1 ≡ suc (length s) = rw first at place in
    ap (λ n. take n s) (omega (arith, here))

no-other : (s : List ℕ) (t : Term) → base_and_displacement s ≡ Some t → (base : ℕ) × (number : Number) × (t ≡ term.Memory base number)
no-other s t e = go (register_named (trim (before_first is_sign s))) e where
  go : (o : Option ℕ) → option_and_then (λ b. option_map (term.Memory b) (displacement s)) o ≡ Some t
      → (base : ℕ) × (number : Number) × (t ≡ term.Memory base number)
  go None e = cc
  go (Some b) e = let part = map-some (term.Memory b) (displacement s) t e in (b, part.0, sym part.2)

pub inside-open : (s : List ℕ) (base : ℕ) (number : Number) → ReadsInside s base number → list_all is_open s ≡ true
inside-open s base number (inl known) =
    padded-all is_open (λ x. IsRegister x base) s blank-open mark-open (λ x h. register-marks x base h) known.0
inside-open s base number (inr (inl known)) = displaced-open false 43 s base number refl known
inside-open s base number (inr (inr known)) = displaced-open true 45 s base number refl known

memory-says : (s : List ℕ) (t : Term) → memory s ≡ Some t → IsOperand form.Memory s t
memory-says s t e = go (is_bracketed s) refl e where
  go : (b : Bool) → is_bracketed s ≡ b → (if b then base_and_displacement (before 93 (drop 1 s)) else None) ≡ Some t
      → IsOperand form.Memory s t
  go false h e = cc
  go true h e =
      let other = no-other (before 93 (drop 1 s)) t e in
      subst (IsOperand form.Memory s) (sym other.2)
      (before 93 (drop 1 s), bracketed-says s h, inside-says (before 93 (drop 1 s)) other.0 other.1 (e ∙ ap Some other.2))

-- operands
pub operand-says : (f : OperandForm) (s : List ℕ) (t : Term) → term_of f s ≡ Some t → IsOperand f s t
operand-says form.Register s t e =
    let part = map-some term.Register (register_named s) t e in
    subst (IsOperand form.Register s) part.2 (register-says s part.0 (part.1))
operand-says form.Unsigned s t e =
    let part = map-some _ (natural s) t e in
    subst (IsOperand form.Unsigned s) part.2 (refl, natural-says s part.0 part.1)
operand-says form.Signed s t e =
    let part = map-some term.Number (signed_number s) t e in
    subst (IsOperand form.Signed s) part.2 (signed-says s part.0 part.1)
operand-says form.Source s t e = go (register_named s) refl e where
  go : (o : Option ℕ) → register_named s ≡ o → register_or o s ≡ Some t → IsOperand form.Source s t
  go (Some r) h e = let same : term.Register r ≡ t = cc in subst (IsOperand form.Source s) same (register-says s r (h))
  go None h e =
      let part = map-some term.Number (signed_number s) t e in
      subst (IsOperand form.Source s) part.2 (signed-says s part.0 part.1)
operand-says form.Memory s t e = memory-says s t e
operand-says form.Name s t e = go (is_name s) refl e where
  go : (b : Bool) → is_name s ≡ b → (if b then Some (term.Name s) else None) ≡ Some t → IsOperand form.Name s t
  go true h e = let same : term.Name s ≡ t = cc in subst (IsOperand form.Name s) same (refl, h)
  go false h e = cc

-- a number is no register: it doesn't begin with r
first-of-register : (s : List ℕ) (r : ℕ) → IsRegister s r → slice_index s 0 ≡ 114
first-of-register s r known = ap (λ x. slice_index x 0) known.1

first-of-natural : (s : List ℕ) (n : ℕ) → IsNatural s n → (slice_index s 0 == 114) ≡ false
first-of-natural s n (inl known) = slice_index-other (λ d. nat_lt (digit_value d) 10) 114 s 0 (λ b d. digit-other 114 b refl d) refl (list_all-AllDigits 10 s known.0.1)
first-of-natural s n (inr known) = ap (λ x. slice_index x 0 == 114) known.1

apart : (s : List ℕ) (number : Number) (r : ℕ) → IsSigned s number → IsRegister s r → ⊥
apart s number r (inl known) reg =
    let r_first : (slice_index s 0 == 114) ≡ true = eq-eqb (slice_index s 0) 114 (first-of-register s r reg) in
    let other = first-of-natural s number.magnitude known.1 in
    cc
apart s number r (inr known) reg =
    let r_first = first-of-register s r reg in
    let minus : slice_index s 0 ≡ 45 = ap (λ x. slice_index x 0) known.1 in
    absurd (omega (arith, r_first, minus))

no-register : (s : List ℕ) (number : Number) → IsSigned s number → register_named s ≡ None
no-register s number known = go (register_named s) refl where
  go : (o : Option ℕ) → register_named s ≡ o → register_named s ≡ None
  go None h = h
  go (Some r) h = absurd (apart s number r known (register-says s r (h)))

pub says-operand : (f : OperandForm) (s : List ℕ) (t : Term) → IsOperand f s t → term_of f s ≡ Some t
says-operand form.Register s (term.Register r) known = rw (says-register s r known) refl
says-operand form.Unsigned s (term.Number number) known = rw (says-natural s number.magnitude known.1, ← known.0) refl
says-operand form.Signed s (term.Number number) known = rw (says-signed s number known) refl
says-operand form.Source s (term.Register r) known = rw (says-register s r known) refl
says-operand form.Source s (term.Number number) known = rw (no-register s number known, says-signed s number known) refl
says-operand form.Memory s (term.Memory base number) known =
    ap memory known.1 ∙ memory-at known.0 (term.Memory base number) (inside-open known.0 base number known.2)
    (says-inside known.0 base number known.2)
says-operand form.Name s (term.Name name) known = rw (known.1, known.0) refl
says-operand f s t known = absurd known

pub operands : (f : OperandForm) (s : List ℕ) (t : Term) → (term_of f s ≡ Some t) ↔ IsOperand f s t
operands f s t = (operand-says f s t, says-operand f s t)
