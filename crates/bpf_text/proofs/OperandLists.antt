-- What is read of an instruction's operands is what their grammar says.
use Rattle.std.proofs.Common.{ℕ, ◌≡◌, ◌<◌, ◌+◌, ◌==◌, Bool, true, false, not, ◌↔◌, List, [], ◌∷◌, ◌++◌, length, length-append, refl, ap, sym, ◌∙◌, arith, Option, Some, None, option_map, option_and_then, subst, append_assoc, inl, inr}
use Rattle.std.proofs.lemmas.List.{append-nil}
use Rattle.std.proofs.lemmas.Bool.Decides.{nat_tests}
use Rattle.counted_io.proofs.Naturals.{and-both}
use Rattle.bpf_text.specs.declared.read.number.Number.{Number}
use Rattle.bpf_text.specs.declared.read.term.OperandForm.{OperandForm}
use Rattle.bpf_text.specs.declared.read.term.OperandForm.TheVariants as form
use Rattle.bpf_text.specs.declared.read.term.OperandForms.{OperandForms}
use Rattle.bpf_text.specs.declared.read.term.OperandForms.TheVariants as forms
use Rattle.bpf_text.specs.declared.read.term.Term.{Term}
use Rattle.bpf_text.specs.declared.read.term.Term.TheVariants as term
use Rattle.bpf_text.specs.declared.read.term.Terms.{Terms}
use Rattle.counted_io.specs.Lines.{is_blank}
use Rattle.bpf_text.specs.Characters.{is_letter, is_name, is_name_byte}
use Rattle.counted_io.specs.Cuts.{trim, trim_end, before, after}
use Rattle.bpf_text.specs.Scaffolding.Cuts.{first_operand, other_operands}
use Rattle.counted_io.specs.Numerals.{IsNatural}
use Rattle.bpf_text.proofs.Grammar.{IsRegister, IsSigned, ReadsInside, ReadsDisplaced, IsOperand, AreOperands, Padded}
use Rattle.bpf_text.proofs.Grammar.{two, three, one}
use Rattle.bpf_text.specs.Scaffolding.Terms.{terms_of, term_of}
use Rattle.counted_io.proofs.Cutting.{trim_end-blank}
use Rattle.bpf_text.proofs.PlainTexts.{is_plain, are_plain, and-join, list_all-append, list_all-weaken, before_first-at, after_first-at, Snug, Snug-plain, Snug-append}
use Rattle.bpf_text.proofs.OperandGrammar.{is_mark, register-marks, natural-marks, padded-all, trim_start-blanks, says-operand, map-some, padded-trim, split-first, operand-says}
use Rattle.std.proofs.Math.ListN.{drop_of_length-le}
use Rattle.std.proofs.lemmas.List.Sums.{prefix_len-le-length}
use Rattle.std.proofs.lemmas.Bool.{eqb-true}
use Rattle.std.specs.List.{list_all, position_or_len}

-- an operand begins and ends with no blank, and has no comma
mark-plain : (b : ℕ) → is_mark b ≡ true → is_plain b ≡ true
mark-plain b h = grind (arith, nat_tests)

abbrev pub no_comma : ℕ → Bool
no_comma b = not (b == 44)

plain-no-comma : (b : ℕ) → is_plain b ≡ true → no_comma b ≡ true
plain-no-comma b h = grind (arith, nat_tests)

open-no-comma : (s : List ℕ) → list_all no_comma s ≡ true → list_all no_comma (91 ∷ (s ++ 93 ∷ [])) ≡ true
open-no-comma s p = list_all-append no_comma s (93 ∷ []) p refl

name-byte-plain : (b : ℕ) → is_name_byte b ≡ true → is_plain b ≡ true
name-byte-plain b h = grind (arith, nat_tests)

letter-plain : (b : ℕ) → is_letter b ≡ true → is_plain b ≡ true
letter-plain b h = grind (arith, nat_tests)

pub name-plain : (s : List ℕ) → is_name s ≡ true → (0 < length s) × (are_plain s ≡ true)
name-plain [] h = cc
name-plain (b ∷ s) h =
    let parts = and-both (is_letter b) (list_all is_name_byte s) h in
    (omega arith, and-join (is_plain b) (are_plain s) (letter-plain b parts.0) (list_all-weaken is_name_byte is_plain s name-byte-plain parts.1))

-- what an operand's text is
pub record IsTight (s : List ℕ) : Type 0 where
  pub snug : Snug s
  pub whole : list_all no_comma s ≡ true

tight-plain : (s : List ℕ) → 0 < length s → are_plain s ≡ true → IsTight s
tight-plain s some plain = record { snug = Snug-plain s some plain; whole = list_all-weaken is_plain no_comma s plain-no-comma plain }

tight-marks : (s : List ℕ) → 0 < length s → list_all is_mark s ≡ true → IsTight s
tight-marks s some marks = tight-plain s some (list_all-weaken is_mark is_plain s mark-plain marks)

tight-bracketed : (s : List ℕ) → list_all no_comma s ≡ true → IsTight (91 ∷ (s ++ 93 ∷ []))
tight-bracketed s p = record {
  snug = Snug-append (91 ∷ []) s (93 ∷ []) (Snug-plain (91 ∷ []) (omega arith) refl) (Snug-plain (93 ∷ []) (omega arith) refl);
  whole = open-no-comma s p;
}

mark-no-comma : (b : ℕ) → is_mark b ≡ true → no_comma b ≡ true
mark-no-comma b h = plain-no-comma b (mark-plain b h)

blank-no-comma : (b : ℕ) → is_blank b ≡ true → no_comma b ≡ true
blank-no-comma b h = grind (arith, nat_tests)

displaced-no-comma : (negative : Bool) (sign : ℕ) (s : List ℕ) (base : ℕ) (n : Number) → no_comma sign ≡ true
    → ReadsDisplaced negative sign s base n → list_all no_comma s ≡ true
displaced-no-comma negative sign s base n e known =
    let front = padded-all no_comma (λ x. IsRegister x base) known.0 blank-no-comma mark-no-comma (λ x h. register-marks x base h) known.3 in
    let back = padded-all no_comma (λ x. IsNatural x n.magnitude) known.1 blank-no-comma mark-no-comma
    (λ x h. natural-marks x n.magnitude h) known.4 in
    rw known.2 (list_all-append no_comma known.0 (sign ∷ known.1) front (and-join (no_comma sign) (list_all no_comma known.1) e back))

inside-no-comma : (s : List ℕ) (base : ℕ) (n : Number) → ReadsInside s base n → list_all no_comma s ≡ true
inside-no-comma s base n (inl known) =
    padded-all no_comma (λ x. IsRegister x base) s blank-no-comma mark-no-comma (λ x h. register-marks x base h) known.0
inside-no-comma s base n (inr (inl known)) = displaced-no-comma false 43 s base n refl known
inside-no-comma s base n (inr (inr known)) = displaced-no-comma true 45 s base n refl known

some-register : (s : List ℕ) (r : ℕ) → IsRegister s r → 0 < length s
some-register s r known = omega (arith, ap length known.1)

some-natural : (s : List ℕ) (n : ℕ) → IsNatural s n → 0 < length s
some-natural s n (inl known) = known.0.0
some-natural s n (inr known) = omega (arith, ap length known.1)

tight-signed : (s : List ℕ) (n : Number) → IsSigned s n → IsTight s
tight-signed s n (inl known) = tight-marks s (some-natural s n.magnitude known.1) (natural-marks s n.magnitude known.1)
tight-signed s n (inr known) =
    let plain = list_all-weaken is_mark is_plain known.0 mark-plain (natural-marks known.0 n.magnitude known.3) in
    subst IsTight (sym known.1) (tight-plain (45 ∷ known.0) (omega arith) plain)

pub tight-operand : (f : OperandForm) (s : List ℕ) (t : Term) → IsOperand f s t → IsTight s
tight-operand form.Register s (term.Register r) known = tight-marks s (some-register s r known) (register-marks s r known)
tight-operand form.Unsigned s (term.Number n) known = tight-marks s (some-natural s n.magnitude known.1) (natural-marks s n.magnitude known.1)
tight-operand form.Signed s (term.Number n) known = tight-signed s n known
tight-operand form.Source s (term.Register r) known = tight-marks s (some-register s r known) (register-marks s r known)
tight-operand form.Source s (term.Number n) known = tight-signed s n known
tight-operand form.Memory s (term.Memory base n) known = subst IsTight (sym known.1) (tight-bracketed known.0 (inside-no-comma known.0 base n known.2))
tight-operand form.Name s (term.Name name) known = let plain = name-plain s known.1 in tight-plain s plain.0 plain.1
tight-operand f s t known = absurd known

-- blanks around it
pub trim_end-blanks : (s back : List ℕ) → list_all is_blank back ≡ true → trim_end (s ++ back) ≡ trim_end s
trim_end-blanks s [] p = ap trim_end (append-nil s)
trim_end-blanks s (b ∷ back) p =
    let parts = and-both (is_blank b) (list_all is_blank back) p in
    ap trim_end (sym (append_assoc s (b ∷ []) back)) ∙ trim_end-blanks (s ++ b ∷ []) back parts.1 ∙ trim_end-blank s b parts.0

pub trim-snug : (front core back : List ℕ) → list_all is_blank front ≡ true → Snug core → list_all is_blank back ≡ true
    → trim (front ++ (core ++ back)) ≡ core
trim-snug front core back p snug q =
    ap trim_end (trim_start-blanks front (core ++ back) p ∙ snug.start back) ∙ trim_end-blanks core back q ∙ snug.end

-- an operand, a comma and what follows
comma-no : (b : ℕ) → no_comma b ≡ true → (b == 44) ≡ false
comma-no b h = grind (arith, nat_tests)

front-whole : (x back : List ℕ) → IsTight x → list_all is_blank back ≡ true → list_all no_comma (x ++ back) ≡ true
front-whole x back tight q = list_all-append no_comma x back tight.whole (list_all-weaken is_blank no_comma back blank-no-comma q)

first-of : (x back rest : List ℕ) → IsTight x → list_all is_blank back ≡ true → first_operand ((x ++ back) ++ 44 ∷ rest) ≡ x
first-of x back rest tight q =
    ap trim (before_first-at (λ b. b == 44) no_comma (x ++ back) 44 rest comma-no refl (front-whole x back tight q))
    ∙ trim-snug [] x back refl tight.snug q

others-of : (x back front core : List ℕ) → IsTight x → list_all is_blank back ≡ true → list_all is_blank front ≡ true → Snug core
    → other_operands ((x ++ back) ++ 44 ∷ (front ++ core)) ≡ core
others-of x back front core tight q p snug =
    ap trim (after_first-at (λ b. b == 44) no_comma (x ++ back) 44 (front ++ core) comma-no refl (front-whole x back tight q))
    ∙ ap (λ r. trim (front ++ r)) (sym (append-nil core)) ∙ trim-snug front core [] p snug refl

core-snug : (x back front core : List ℕ) → IsTight x → Snug core → Snug ((x ++ back) ++ 44 ∷ (front ++ core))
core-snug x back front core tight snug =
    let whole = Snug-append x (back ++ 44 ∷ front) core tight.snug snug in
    let same : x ++ ((back ++ 44 ∷ front) ++ core) ≡ (x ++ back) ++ 44 ∷ (front ++ core) = simp append_assoc in
    subst Snug same whole

-- read as the grammar says
says-two : (f g : OperandForm) (x back front y : List ℕ) (a b : Term) → IsOperand f x a → list_all is_blank back ≡ true
    → list_all is_blank front ≡ true → IsOperand g y b
    → terms_of (forms.Two f g) ((x ++ back) ++ 44 ∷ (front ++ y)) ≡ Some (two a b)
says-two f g x back front y a b is_a q p is_b =
    let tight = tight-operand f x a is_a in
    let last = tight-operand g y b is_b in
    rw (first-of x back (front ++ y) tight q, others-of x back front y tight q p last.snug, says-operand f x a is_a, says-operand g y b is_b) refl

says-three : (f g h : OperandForm) (x q m y r l z : List ℕ) (a b c : Term) → IsOperand f x a → list_all is_blank q ≡ true
    → list_all is_blank m ≡ true → IsOperand g y b → list_all is_blank r ≡ true → list_all is_blank l ≡ true → IsOperand h z c
    → terms_of (forms.Three f g h) ((x ++ q) ++ 44 ∷ (m ++ ((y ++ r) ++ 44 ∷ (l ++ z)))) ≡ Some (three a b c)
says-three f g h x q m y r l z a b c is_a q_blank m_blank is_b r_blank l_blank is_c =
    let first = tight-operand f x a is_a in
    let second = tight-operand g y b is_b in
    let third = tight-operand h z c is_c in
    let rest = (y ++ r) ++ 44 ∷ (l ++ z) in
    rw (
      others-of x q m rest first q_blank m_blank (core-snug y r l z second third.snug),
      first-of x q (m ++ rest) first q_blank,
      first-of y r (l ++ z) second r_blank,
      others-of y r l z second r_blank l_blank third.snug,
      says-operand f x a is_a,
      says-operand g y b is_b,
      says-operand h z c is_c,
    ) refl

regroup-two : (p x q m y r : List ℕ) → (p ++ (x ++ q)) ++ 44 ∷ (m ++ (y ++ r)) ≡ p ++ (((x ++ q) ++ 44 ∷ (m ++ y)) ++ r)
regroup-two p x q m y r = simp append_assoc

regroup-three : (p x q m y r l z t : List ℕ)
    → (p ++ (x ++ q)) ++ 44 ∷ ((m ++ (y ++ r)) ++ 44 ∷ (l ++ (z ++ t)))
    ≡ p ++ (((x ++ q) ++ 44 ∷ (m ++ ((y ++ r) ++ 44 ∷ (l ++ z)))) ++ t)
regroup-three p x q m y r l z t = simp append_assoc

-- operands as the grammar has them are read so
says-operands : (fs : OperandForms) (s : List ℕ) (terms : Terms) → AreOperands fs s terms → terms_of fs (trim s) ≡ Some terms
says-operands forms.Nothing s terms known =
    let nothing : trim s ≡ [] = ap trim (sym (append-nil s)) ∙ ap trim_end (trim_start-blanks s [] known.0) in
    rw (nothing, known.1) refl
says-operands (forms.One f) s terms known =
    let a = known.1 in
    let tight = tight-operand f a.1 known.0 a.5 in
    rw (known.2, ap trim a.3 ∙ trim-snug a.0 a.1 a.2 a.4 tight.snug a.6, says-operand f a.1 known.0 a.5) refl
says-operands (forms.Two f g) s terms known =
    let a = known.5 in
    let b = known.6 in
    let core = (a.1 ++ a.2) ++ 44 ∷ (b.0 ++ b.1) in
    let first = tight-operand f a.1 known.2 a.5 in
    let second = tight-operand g b.1 known.3 b.5 in
    let text : s ≡ a.0 ++ (core ++ b.2) =
    known.4 ∙ ap (λ l. l ++ 44 ∷ known.1) a.3 ∙ ap (λ l. (a.0 ++ (a.1 ++ a.2)) ++ 44 ∷ l) b.3
    ∙ regroup-two a.0 a.1 a.2 b.0 b.1 b.2 in
    ap (terms_of (forms.Two f g))
    (ap trim text ∙ trim-snug a.0 core b.2 a.4 (core-snug a.1 a.2 b.0 b.1 first second.snug) b.6)
    ∙ says-two f g a.1 a.2 b.0 b.1 known.2 known.3 a.5 a.6 b.4 b.5 ∙ ap Some (sym known.7)
says-operands (forms.Three f g h) s terms known =
    let a = known.7 in
    let b = known.8 in
    let c = known.9 in
    let rest = (b.1 ++ b.2) ++ 44 ∷ (c.0 ++ c.1) in
    let core = (a.1 ++ a.2) ++ 44 ∷ (b.0 ++ rest) in
    let first = tight-operand f a.1 known.3 a.5 in
    let second = tight-operand g b.1 known.4 b.5 in
    let third = tight-operand h c.1 known.5 c.5 in
    let text : s ≡ a.0 ++ (core ++ c.2) =
    known.6 ∙ ap (λ l. l ++ 44 ∷ (known.1 ++ 44 ∷ known.2)) a.3
    ∙ ap (λ l. (a.0 ++ (a.1 ++ a.2)) ++ 44 ∷ (l ++ 44 ∷ known.2)) b.3
    ∙ ap (λ l. (a.0 ++ (a.1 ++ a.2)) ++ 44 ∷ ((b.0 ++ (b.1 ++ b.2)) ++ 44 ∷ l)) c.3
    ∙ regroup-three a.0 a.1 a.2 b.0 b.1 b.2 c.0 c.1 c.2 in
    ap (terms_of (forms.Three f g h))
    (ap trim text
    ∙ trim-snug a.0 core c.2 a.4 (core-snug a.1 a.2 b.0 rest first (core-snug b.1 b.2 c.0 c.1 second third.snug)) c.6)
    ∙ says-three f g h a.1 a.2 b.0 b.1 b.2 c.0 c.1 known.3 known.4 known.5 a.5 a.6 b.4 b.5 b.6 c.4 c.5 ∙ ap Some (sym known.10)

-- what is read of operands is said by the grammar
pub and-some : {A B : Type 0} (f : A → Option B) (o : Option A) (b : B) → option_and_then f o ≡ Some b → (a : A) × (o ≡ Some a) × (f a ≡ Some b)
and-some f None b e = cc
and-some f (Some a) b e = (a, refl, e)

pad-front : (Is : List ℕ → Type 0) (front s : List ℕ) → list_all is_blank front ≡ true → Padded Is s → Padded Is (front ++ s)
pad-front Is front s p known =
    let text : front ++ s ≡ (front ++ known.0) ++ (known.1 ++ known.2) =
    ap (λ l. front ++ l) known.3 ∙ sym (append_assoc front known.0 (known.1 ++ known.2)) in
    (front ++ known.0, known.1, known.2, text, list_all-append is_blank front known.0 p known.4, known.5, known.6)

pad-back : (Is : List ℕ → Type 0) (s back : List ℕ) → Padded Is s → list_all is_blank back ≡ true → Padded Is (s ++ back)
pad-back Is s back known p =
    let group : (a x b : List ℕ) → (a ++ (x ++ b)) ++ back ≡ a ++ (x ++ (b ++ back)) = λ a x b. simp append_assoc in
    let text : s ++ back ≡ known.0 ++ (known.1 ++ (known.2 ++ back)) =
    ap (λ l. l ++ back) known.3 ∙ group known.0 known.1 known.2 in
    (known.0, known.1, known.2 ++ back, text, known.4, known.5, list_all-append is_blank known.2 back known.6 p)

-- a comma stands where something stands behind it
comma-in : (s : List ℕ) → 0 < length (other_operands s) → s ≡ before 44 s ++ 44 ∷ after 44 s
comma-in s some = go (position_or_len (λ b. b == 44) s == length s) refl where
  go : (t : Bool) → (position_or_len (λ b. b == 44) s == length s) ≡ t → s ≡ before 44 s ++ 44 ∷ after 44 s
  go true h =
      let all = eqb-true (position_or_len (λ b. b == 44) s) (length s) h in
      let none : after 44 s ≡ [] = drop_of_length-le s {i = position_or_len (λ b. b == 44) s + 1} (omega (arith, all)) in
      let empty : length (other_operands s) ≡ 0 = ap (λ l. length (trim l)) none in
      absurd (omega (arith, some, empty))
  go false h =
      let cut = split-first (λ b. b == 44) s (short h) in
      cut.1 ∙ ap (λ c. before 44 s ++ c ∷ after 44 s) (eqb-true cut.0 44 cut.2) where
        short : (position_or_len (λ b. b == 44) s == length s) ≡ false → position_or_len (λ b. b == 44) s < length s
        short h = let most = prefix_len-le-length (λ x. not (x == 44)) s in grind (arith, nat_tests)

two-say : (f g : OperandForm) (s : List ℕ) (terms : Terms) → terms_of (forms.Two f g) s ≡ Some terms → AreOperands (forms.Two f g) s terms
two-say f g s terms e =
    let one_of = and-some (λ a. option_map (two a) (term_of g (other_operands s))) (term_of f (first_operand s)) terms e in
    let two_of = map-some (two one_of.0) (term_of g (other_operands s)) terms one_of.2 in
    let is_a = operand-says f (first_operand s) one_of.0 one_of.1 in
    let is_b = operand-says g (other_operands s) two_of.0 two_of.1 in (
      before 44 s,
      after 44 s,
      one_of.0,
      two_of.0,
      comma-in s (tight-operand g (other_operands s) two_of.0 is_b).snug.some,
      padded-trim (λ x. IsOperand f x one_of.0) (before 44 s) is_a,
      padded-trim (λ x. IsOperand g x two_of.0) (after 44 s) is_b,
      sym two_of.2,
    )

two-padded : (f g : OperandForm) (s : List ℕ) (terms : Terms) → AreOperands (forms.Two f g) (trim s) terms → AreOperands (forms.Two f g) s terms
two-padded f g s terms known =
    let around = padded-trim (λ x. x ≡ trim s) s refl in
    let group : (p a b q : List ℕ) → p ++ ((a ++ 44 ∷ b) ++ q) ≡ (p ++ a) ++ 44 ∷ (b ++ q) = λ p a b q. simp append_assoc in
    let text : s ≡ (around.0 ++ known.0) ++ 44 ∷ (known.1 ++ around.2) =
    around.3 ∙ ap (λ l. around.0 ++ (l ++ around.2)) (around.5 ∙ known.4) ∙ group around.0 known.0 known.1 around.2 in (
      around.0 ++ known.0,
      known.1 ++ around.2,
      known.2,
      known.3,
      text,
      pad-front (λ x. IsOperand f x known.2) around.0 known.0 around.4 known.5,
      pad-back (λ x. IsOperand g x known.3) known.1 around.2 known.6 around.6,
      known.7,
    )

two-from : (f g : OperandForm) (s : List ℕ) (a b : Term) → term_of f (first_operand s) ≡ Some a → term_of g (other_operands s) ≡ Some b
    → terms_of (forms.Two f g) s ≡ Some (two a b)
two-from f g s a b p q = rw (p, q) refl

three-say : (f g h : OperandForm) (s : List ℕ) (terms : Terms) → terms_of (forms.Three f g h) s ≡ Some terms
    → AreOperands (forms.Three f g h) s terms
three-say f g h s terms e =
    let rest = other_operands s in
    let one_of = and-some (λ a. option_and_then (λ b. option_map (three a b) (term_of h (other_operands rest))) (term_of g (first_operand rest)))
    (term_of f (first_operand s)) terms e in
    let two_of = and-some (λ b. option_map (three one_of.0 b) (term_of h (other_operands rest))) (term_of g (first_operand rest)) terms one_of.2 in
    let three_of = map-some (three one_of.0 two_of.0) (term_of h (other_operands rest)) terms two_of.2 in
    let others : terms_of (forms.Two g h) rest ≡ Some (two two_of.0 three_of.0) = two-from g h rest two_of.0 three_of.0 two_of.1 three_of.1 in
    let behind = two-say g h rest (two two_of.0 three_of.0) others in
    let padded = two-padded g h (after 44 s) (two two_of.0 three_of.0) behind in
    let some : 0 < length rest = omega (arith, ap length behind.4, length-append behind.0 (44 ∷ behind.1)) in
    let same : three one_of.0 padded.2 padded.3 ≡ terms =
    ap (λ t. three one_of.0 t.first t.second) (sym padded.7) ∙ three_of.2 in (
      before 44 s,
      padded.0,
      padded.1,
      one_of.0,
      padded.2,
      padded.3,
      comma-in s some ∙ ap (λ l. before 44 s ++ 44 ∷ l) padded.4,
      padded-trim (λ x. IsOperand f x one_of.0) (before 44 s) (operand-says f (first_operand s) one_of.0 one_of.1),
      padded.5,
      padded.6,
      sym same,
    )

three-padded : (f g h : OperandForm) (s : List ℕ) (terms : Terms) → AreOperands (forms.Three f g h) (trim s) terms
    → AreOperands (forms.Three f g h) s terms
three-padded f g h s terms known =
    let around = padded-trim (λ x. x ≡ trim s) s refl in
    let group : (p a b c q : List ℕ) → p ++ ((a ++ 44 ∷ (b ++ 44 ∷ c)) ++ q) ≡ (p ++ a) ++ 44 ∷ (b ++ 44 ∷ (c ++ q)) =
    λ p a b c q. simp append_assoc in
    let text : s ≡ (around.0 ++ known.0) ++ 44 ∷ (known.1 ++ 44 ∷ (known.2 ++ around.2)) =
    around.3 ∙ ap (λ l. around.0 ++ (l ++ around.2)) (around.5 ∙ known.6) ∙ group around.0 known.0 known.1 known.2 around.2 in (
      around.0 ++ known.0,
      known.1,
      known.2 ++ around.2,
      known.3,
      known.4,
      known.5,
      text,
      pad-front (λ x. IsOperand f x known.3) around.0 known.0 around.4 known.7,
      known.8,
      pad-back (λ x. IsOperand h x known.5) known.2 around.2 known.9 around.6,
      known.10,
    )

operands-say : (fs : OperandForms) (s : List ℕ) (terms : Terms) → terms_of fs (trim s) ≡ Some terms → AreOperands fs s terms
operands-say forms.Nothing s terms e = go (trim s) refl e where
  go : (t : List ℕ) → trim s ≡ t → terms_of forms.Nothing t ≡ Some terms → AreOperands forms.Nothing s terms
  go [] h e =
      let around = padded-trim (λ x. x ≡ []) s h in
      let blank = list_all-append is_blank around.0 (around.1 ++ around.2) around.4
      (list_all-append is_blank around.1 around.2 (ap (list_all is_blank) around.5) around.6) in
      let same : one term.Absent ≡ terms = cc in
      (ap (list_all is_blank) around.3 ∙ blank, sym same)
  go (b ∷ t) h e = cc
operands-say (forms.One f) s terms e =
    let part = map-some one (term_of f (trim s)) terms e in
    (part.0, padded-trim (λ x. IsOperand f x part.0) s (operand-says f (trim s) part.0 part.1), sym part.2)
operands-say (forms.Two f g) s terms e = two-padded f g s terms (two-say f g (trim s) terms e)
operands-say (forms.Three f g h) s terms e = three-padded f g h s terms (three-say f g h (trim s) terms e)

pub operand-lists : (fs : OperandForms) (s : List ℕ) (terms : Terms) → (terms_of fs (trim s) ≡ Some terms) ↔ AreOperands fs s terms
operand-lists fs s terms = (operands-say fs s terms, says-operands fs s terms)
