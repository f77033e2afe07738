-- The canonical text of an instruction says it.
use Rattle.std.proofs.Common.{ℕ, ℤ, pos, negsuc, zero, suc, ◌≡◌, ◌<◌, ◌≤◌, ◌^◌, ◌==◌, Bool, true, false, ◌&&◌, not, nat_le, List, [], ◌∷◌, ◌++◌, Option, Some, None, refl, ap, sym, ◌∙◌, arith, codes, inl, inr, lit≤, if◌then◌else◌, ◌/◌, ◌%◌, w16, w32, SFits, decimal, append_assoc}
use Rattle.std.specs.List.{list_all}
use Rattle.std.specs.Fmt.{digits, digits_onto, digit_glyph, signed_decimal}
use Rattle.std.specs.Int.{cast_signed}
use Rattle.std.proofs.lemmas.Fmt.{decimal_is_IsNumeral, digits_is_IsNumeral}
use Rattle.std.proofs.lemmas.Int.{to_z_pos}
use Rattle.std.proofs.lemmas.List.{append-nil}
use Rattle.std.proofs.lemmas.Bool.Decides.{nat_tests}
use Rattle.bpf_isa.specs.declared.instruction.Insn.{Insn}
use Rattle.bpf_isa.specs.Mnemonics.{mnemonic_of}
use Rattle.bpf_isa.specs.Registers.{register_text}
use Rattle.bpf_text.specs.declared.write.operand.Operand.{Operand}
use Rattle.bpf_text.specs.declared.write.operand.Operand.TheVariants.{Register, Signed, Unsigned, Hexadecimal, Memory, Target}
use Rattle.bpf_text.specs.declared.write.operand.Operands.{Operands}
use Rattle.bpf_text.specs.declared.write.operand.Operands.TheVariants.{Nothing, One, Two, Three}
use Rattle.counted_io.specs.Numerals.{IsNatural}
use Rattle.counted_io.specs.Writing.{hexadecimal}
use Rattle.bpf_text.specs.Characters.{is_text}
use Rattle.bpf_text.specs.Labels.{Labels}
use Rattle.bpf_text.specs.LineGrammar.{IsLabelled, IsLine, IsApart}
use Rattle.bpf_text.specs.Mnemonics.{name_of}
use Rattle.bpf_text.specs.Operands.{label_text, offset_text, operand_text, operands_text, operands_of, text_of_insn}
use Rattle.bpf_text.specs.Statements.{SaysInsn}
use Rattle.bpf_text.specs.Written.{IsRegister, IsInteger, Padded, IsInside, IsWithin, IsWritten, AreListed, low_bits}
use Rattle.bpf_text.proofs.MnemonicNames.{plain-name_of}
use Rattle.bpf_text.proofs.PlainTexts.{is_plain, are_plain, list_all-append, list_all-weaken, list_all-no, are_plain-decimal, are_plain-solid}
use Rattle.bpf_text.proofs.TokenTexts.{name-label}
use Rattle.bpf_text.proofs.WrittenNumbers.{low-32, low-64, minus-32}

-- the label of a slot stands in it
abbrev pub IsAt : Labels → ℕ → Type 0
IsAt labels t = (line : ℕ) × (labels (label_text t) ≡ Some (record { line = line; slot = t }))

-- a target is a slot that has its label
abbrev pub Reaches : Labels → ℤ → Type 0
Reaches labels (pos t) = (t ≤ 65535) × IsAt labels t
Reaches labels (negsuc n) = ⊥

-- an operand in its range
abbrev pub OperandFits : Labels → Operand → Type 0
OperandFits labels (Register r) = r ≤ 10
OperandFits labels (Signed v) = SFits w32 v
OperandFits labels (Unsigned n) = n < 2 ^ 32
OperandFits labels (Hexadecimal n) = n < 2 ^ 64
OperandFits labels (Memory a) = (a.base ≤ 10) × SFits w16 a.offset
OperandFits labels (Target z) = Reaches labels z

abbrev pub OperandsFit : Labels → Operands → Type 0
OperandsFit labels Nothing = Unit {0}
OperandsFit labels (One a) = OperandFits labels a
OperandsFit labels (Two a b) = OperandFits labels a × OperandFits labels b
OperandsFit labels (Three a b c) = OperandFits labels a × OperandFits labels b × OperandFits labels c

-- ---- numbers

natural-decimal : (n : ℕ) → n < 2 ^ 64 → IsNatural (decimal n) n
natural-decimal n h = inl (decimal_is_IsNumeral n h)

natural-hexadecimal : (n : ℕ) → n < 2 ^ 64 → IsNatural (hexadecimal n) n
natural-hexadecimal n h = inr (digits 16 false n, refl, digits_is_IsNumeral 16 false (lit≤ tt) (lit≤ tt) n (omega arith))

integer-signed : (z : ℤ) → SFits w32 z → IsInteger (signed_decimal z) z
integer-signed (pos n) fits = let small : n < 2 ^ 31 = fits.sfits in inl (n, natural-decimal n (omega arith), refl)
integer-signed (negsuc n) fits =
    let small : n < 2 ^ 31 = fits.sfits in inr (decimal (suc n), suc n, refl, natural-decimal (suc n) (omega arith), refl)

within-signed : (z : ℤ) → SFits w32 z → IsWithin (2 ^ 31) (2 ^ 32) z
within-signed (pos n) fits = let small : n < 2 ^ 31 = fits.sfits in omega arith
within-signed (negsuc n) fits = fits.sfits

value-signed : (z : ℤ) → SFits w32 z → cast_signed w32 (low_bits 32 z) ≡ z
value-signed (pos n) fits =
    let small : n < 2 ^ 31 = fits.sfits in ap (cast_signed w32) (low-32 n (omega arith)) ∙ to_z_pos w32 n small
value-signed (negsuc n) fits = minus-32 n fits.sfits

pub within-offset : (z : ℤ) → SFits w16 z → IsWithin (2 ^ 15) (2 ^ 15) z
within-offset (pos n) fits = fits.sfits
within-offset (negsuc n) fits = fits.sfits

-- ---- operands

bare : (Is : List ℕ → Type 0) (s : List ℕ) → Is s → Padded Is s
bare Is s known = ([], s, [], sym (append-nil s), refl, known, refl)

inside-text : (r : ℕ) (o : ℤ) → r ≤ 10 → SFits w16 o → IsInside (register_text r ++ offset_text o) r o
inside-text r (pos n) low fits =
    let small : n < 32768 = fits.sfits in
    let base = bare (λ x. IsRegister x r) (register_text r) (low, refl) in
    let number = bare (λ x. IsNatural x n) (decimal n) (natural-decimal n (omega arith)) in
    inr (inl (n, (register_text r, decimal n, refl, base, number), refl))
inside-text r (negsuc n) low fits =
    let small : n < 32768 = fits.sfits in
    let base = bare (λ x. IsRegister x r) (register_text r) (low, refl) in
    let number = bare (λ x. IsNatural x (suc n)) (decimal (suc n)) (natural-decimal (suc n) (omega arith)) in
    inr (inr (suc n, (register_text r, decimal (suc n), refl, base, number), refl))

written-operand : (labels : Labels) (o : Operand) → OperandFits labels o → IsWritten labels o (operand_text o)
written-operand labels (Register r) fits = (fits, refl)
written-operand labels (Signed v) fits = (v, integer-signed v fits, within-signed v fits, value-signed v fits)
written-operand labels (Unsigned n) fits = (natural-decimal n (omega arith), fits)
written-operand labels (Hexadecimal n) fits = (pos n, inl (n, natural-hexadecimal n fits, refl), fits, low-64 n fits)
written-operand labels (Memory a) fits =
    ((register_text a.base ++ offset_text a.offset, refl, inside-text a.base a.offset fits.0 fits.1), within-offset a.offset fits.1)
written-operand labels (Target (pos t)) fits =
    let small : t ≤ 65535 = fits.0 in
    let at = fits.1 in (name-label t (omega (arith, small)), record { line = at.0; slot = t }, at.1, refl)
written-operand labels (Target (negsuc n)) fits = absurd fits

spaced : (labels : Labels) (o : Operand) → OperandFits labels o → Padded (IsWritten labels o) (32 ∷ operand_text o)
spaced labels o fits =
    (32 ∷ [], operand_text o, [], ap (λ s. 32 ∷ s) (sym (append-nil (operand_text o))), refl, written-operand labels o fits, refl)

listed-operands : (labels : Labels) (os : Operands) → OperandsFit labels os → AreListed (IsWritten labels) os (operands_text os)
listed-operands labels Nothing fits = refl
listed-operands labels (One a) fits = spaced labels a fits
listed-operands labels (Two a b) fits =
    (32 ∷ operand_text a, 32 ∷ operand_text b, refl, spaced labels a fits.0, spaced labels b fits.1)
listed-operands labels (Three a b c) fits = (
  32 ∷ operand_text a,
  32 ∷ operand_text b,
  32 ∷ operand_text c,
  append_assoc (32 ∷ operand_text a) (44 ∷ 32 ∷ operand_text b) (44 ∷ 32 ∷ operand_text c),
  spaced labels a fits.0,
  spaced labels b fits.1,
  spaced labels c fits.2,
)

-- ---- an instruction

apart-operands : (os : Operands) → IsApart (operands_text os)
apart-operands Nothing = tt
apart-operands (One a) = refl
apart-operands (Two a b) = refl
apart-operands (Three a b c) = refl

pub says-canonical : (labels : Labels) (p : ℕ) (i : Insn) → OperandsFit labels (operands_of p i) → SaysInsn labels p (text_of_insn p i) i
says-canonical labels p i fits =
    let name = plain-name_of (mnemonic_of i) in
    let os = operands_of p i in (
      operands_text os,
      record {
        front = [];
        written = refl;
        blank = refl;
        some = name.1;
        solid = are_plain-solid (name_of (mnemonic_of i)) name.0;
        apart = apart-operands os;
      },
      listed-operands labels os fits,
    )

-- ---- the bytes of a line

-- hexadecimal digits
glyph : (d : ℕ) → d < 16 → is_plain (digit_glyph false d) ≡ true
glyph d h = grind (arith, nat_tests)

glyphs-onto : (k n : ℕ) (acc : List ℕ) → are_plain acc ≡ true → are_plain (digits_onto k 16 false n acc) ≡ true
glyphs-onto zero n acc p = p
glyphs-onto (suc k) n acc p =
    let more : are_plain (digit_glyph false (n % 16) ∷ acc) ≡ true = rw (glyph (n % 16) (omega arith), p) refl in
    choose (n / 16 == 0) (digit_glyph false (n % 16) ∷ acc) (digits_onto k 16 false (n / 16) (digit_glyph false (n % 16) ∷ acc))
    more (glyphs-onto k (n / 16) (digit_glyph false (n % 16) ∷ acc) more) where
      choose : (b : Bool) (x y : List ℕ) → are_plain x ≡ true → are_plain y ≡ true → are_plain (if b then x else y) ≡ true
      choose true x y h i = h
      choose false x y h i = i

glyphs : (n : ℕ) → are_plain (digits 16 false n) ≡ true
unfolding digits
glyphs n = glyphs-onto 64 n [] refl

plain-signed : (z : ℤ) → SFits w32 z → are_plain (signed_decimal z) ≡ true
plain-signed (pos n) fits = let small : n < 2 ^ 31 = fits.sfits in are_plain-decimal n (omega arith)
plain-signed (negsuc n) fits = let small : n < 2 ^ 31 = fits.sfits in are_plain-decimal (suc n) (omega arith)

plain-offset : (z : ℤ) → SFits w16 z → are_plain (offset_text z) ≡ true
plain-offset (pos n) fits = let small : n < 32768 = fits.sfits in are_plain-decimal n (omega arith)
plain-offset (negsuc n) fits = let small : n < 32768 = fits.sfits in are_plain-decimal (suc n) (omega arith)

plain-operand : (labels : Labels) (o : Operand) → OperandFits labels o → are_plain (operand_text o) ≡ true
plain-operand labels (Register r) fits = are_plain-decimal r (omega arith)
plain-operand labels (Signed v) fits = plain-signed v fits
plain-operand labels (Unsigned n) fits = are_plain-decimal n (omega arith)
plain-operand labels (Hexadecimal n) fits = glyphs n
plain-operand labels (Memory a) fits =
    let base : are_plain (register_text a.base) ≡ true = are_plain-decimal a.base (omega (arith, fits.0)) in
    let inside = list_all-append is_plain (register_text a.base) (offset_text a.offset) base (plain-offset a.offset fits.1) in
    list_all-append is_plain (register_text a.base ++ offset_text a.offset) (codes "]") inside refl
plain-operand labels (Target (pos t)) fits = let small : t ≤ 65535 = fits.0 in are_plain-decimal t (omega (arith, small))
plain-operand labels (Target (negsuc n)) fits = absurd fits

-- a byte of an instruction's line
abbrev pub is_code : ℕ → Bool
is_code b = nat_le 32 b && nat_le b 126 && not (b == 58) && not (b == 59)

plain-code : (b : ℕ) → is_plain b ≡ true → is_code b ≡ true
plain-code b p = grind (arith, nat_tests)

code-text : (b : ℕ) → is_code b ≡ true → is_text b ≡ true
code-text b p = grind (arith, nat_tests)

code-semicolon : (b : ℕ) → is_code b ≡ true → not (b == 59) ≡ true
code-semicolon b p = grind (arith, nat_tests)

code-feed : (b : ℕ) → is_code b ≡ true → not (b == 10) ≡ true
code-feed b p = grind (arith, nat_tests)

code-operand : (labels : Labels) (o : Operand) → OperandFits labels o → list_all is_code (operand_text o) ≡ true
code-operand labels o fits = list_all-weaken is_plain is_code (operand_text o) plain-code (plain-operand labels o fits)

code-two : (a b : List ℕ) → list_all is_code a ≡ true → list_all is_code b ≡ true → list_all is_code (a ++ (44 ∷ 32 ∷ b)) ≡ true
code-two a b p q = list_all-append is_code a (44 ∷ 32 ∷ b) p q

code-operands : (labels : Labels) (os : Operands) → OperandsFit labels os → list_all is_code (operands_text os) ≡ true
code-operands labels Nothing fits = refl
code-operands labels (One a) fits = code-operand labels a fits
code-operands labels (Two a b) fits =
    code-two (32 ∷ operand_text a) (operand_text b) (code-operand labels a fits.0) (code-operand labels b fits.1)
code-operands labels (Three a b c) fits =
    code-two ((32 ∷ operand_text a) ++ (44 ∷ 32 ∷ operand_text b)) (operand_text c)
    (code-two (32 ∷ operand_text a) (operand_text b) (code-operand labels a fits.0) (code-operand labels b fits.1))
    (code-operand labels c fits.2)

-- ---- lines

-- a line without a line feed, its label and what stands behind it
pub record IsCanonical (line : List ℕ) (label : Option (List ℕ)) (rest : List ℕ) : Type 0 where
  pub feedless : list_all (λ b. not (b == 10)) line ≡ true
  pub is : IsLine line label rest

no-label : (s name more : List ℕ) → list_all is_code s ≡ true → IsLabelled s name more → ⊥
no-label s name more code known =
    let text : s ≡ (known.front ++ name) ++ 58 ∷ more = known.written ∙ sym (append_assoc known.front name (58 ∷ more)) in
    let no = ap (list_all is_code) text ∙ list_all-no is_code (known.front ++ name) 58 more refl in
    let clash = sym code ∙ no in cc

pub insn-line : (labels : Labels) (p : ℕ) (i : Insn) → OperandsFit labels (operands_of p i)
    → IsCanonical (text_of_insn p i) None (text_of_insn p i)
insn-line labels p i fits =
    let text = text_of_insn p i in
    let name = name_of (mnemonic_of i) in
    let code = list_all-append is_code name (operands_text (operands_of p i))
    (list_all-weaken is_plain is_code name plain-code (plain-name_of (mnemonic_of i)).0) (code-operands labels (operands_of p i) fits) in
    record {
      feedless = list_all-weaken is_code (λ b. not (b == 10)) text code-feed code;
      is = record {
        code = text;
        comment = [];
        written = sym (append-nil text);
        text = list_all-weaken is_code is_text text code-text code;
        plain = list_all-weaken is_code (λ b. not (b == 59)) text code-semicolon code;
        comments = tt;
        labels = (refl, λ name more known. no-label text name more code known);
      };
    }

plain-text : (b : ℕ) → is_plain b ≡ true → is_text b ≡ true
plain-text b p = grind (arith, nat_tests)

plain-semicolon : (b : ℕ) → is_plain b ≡ true → not (b == 59) ≡ true
plain-semicolon b p = grind (arith, nat_tests)

plain-feed : (b : ℕ) → is_plain b ≡ true → not (b == 10) ≡ true
plain-feed b p = grind (arith, nat_tests)

pub label-line : (p : ℕ) → p < 2 ^ 64 → IsCanonical (label_text p ++ codes ":") (Some (label_text p)) []
label-line p h =
    let label = label_text p in
    let plain : are_plain label ≡ true = are_plain-decimal p h in
    let all : (test : ℕ → Bool) → ((b : ℕ) → is_plain b ≡ true → test b ≡ true) → test 58 ≡ true → list_all test (label ++ codes ":") ≡ true =
    (λ test wider colon. list_all-append test label (58 ∷ []) (list_all-weaken is_plain test label wider plain) (rw colon refl)) in
    record {
      feedless = all (λ b. not (b == 10)) plain-feed refl;
      is = record {
        code = label ++ codes ":";
        comment = [];
        written = sym (append-nil (label ++ codes ":"));
        text = all is_text plain-text refl;
        plain = all (λ b. not (b == 59)) plain-semicolon refl;
        comments = tt;
        labels = record { front = []; written = refl; blank = refl; named = name-label p h };
      };
    }
