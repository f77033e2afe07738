-- What is read of a line is what its grammar says.
use Rattle.std.proofs.Common.{ℕ, suc, ◌≡◌, ◌<◌, ◌+◌, ◌==◌, Bool, true, false, not, List, [], ◌∷◌, ◌++◌, drop, length, length-append, refl, ap, sym, ◌∙◌, arith, Option, Some, None, Ok, Err, nat_lt, subst, append_assoc}
use Rattle.std.specs.List.{list_all, position_or_len, before_first, after_first}
use Rattle.std.proofs.lemmas.Bool.{eqb-true}
use Rattle.std.proofs.lemmas.Bool.Decides.{nat_tests}
use Rattle.std.proofs.lemmas.List.{append-nil}
use Rattle.counted_io.proofs.Naturals.{and-both}
use Rattle.bpf_isa.specs.declared.instruction.Insn.{Insn}
use Rattle.bpf_isa.specs.declared.mnemonic.Mnemonic.{Mnemonic}
use Rattle.bpf_text.specs.declared.read.statement.Statement.{Statement}
use Rattle.bpf_text.specs.declared.read.term.Terms.{Terms}
use Rattle.counted_io.specs.Lines.{is_blank, trim_start}
use Rattle.bpf_text.specs.Characters.{is_name, is_text}
use Rattle.counted_io.specs.Cuts.{before, after, trim, trim_end}
use Rattle.bpf_text.specs.Scaffolding.Cuts.{is_labelled, without_comment, mnemonic_part}
use Rattle.bpf_text.specs.Scaffolding.Cuts as cuts
use Rattle.bpf_text.proofs.Grammar.{AreOperands}
use Rattle.bpf_text.specs.LineGrammar.{IsComment, IsLabelled, IsLabel, IsApart, IsInstruction}
use Rattle.bpf_text.proofs.Readings.{IsStatement, IsReading}
use Rattle.bpf_text.specs.Scaffolding.Lines.{read_line, line_of}
use Rattle.bpf_text.specs.declared.read.line.Line.{Line}
use Rattle.bpf_text.specs.Mnemonics.{name_of}
use Rattle.bpf_text.specs.Scaffolding.Named.{named}
use Rattle.bpf_text.specs.declared.fault.LineFault.TheVariants.{UnknownMnemonic, WrongOperands, OutOfRange, TooFar, LabelTwice, UnknownLabel, NotText, TooManySlots}
use Rattle.bpf_text.specs.Scaffolding.Instructions.{forms_of, insn_with}
use Rattle.bpf_text.specs.LineGrammar.{LineReading}
use Rattle.bpf_text.specs.Scaffolding.Lines.{read_statement, of_mnemonic, of_forms, in_ranges}
use Rattle.bpf_text.specs.Scaffolding.Terms.{terms_of}
use Rattle.bpf_text.proofs.MnemonicNames.{named-name_of, named-sound}
use Rattle.bpf_text.proofs.OperandGrammar.{split-first, trim_start-blank, trim_start-other, trim_start-blanks, trim_start-says, trim_end-says, padded-trim}
use Rattle.bpf_text.proofs.OperandLists.{name-plain, trim_end-blanks, trim-snug, operand-lists}
use Rattle.bpf_text.proofs.PlainTexts.{is_plain, and-join, list_all-append, list_all-no, no_blank, solid-blank, position_or_len-at, before_first-at, before_first-none, after_first-at, after_first-none, plain-colon, Snug, Snug-solid, Snug-plain, Snug-append}

-- ---- cuts

-- what follows begins with a byte that passes
abbrev pub Begins : (ℕ → Bool) → List ℕ → Type 0
Begins p [] = Unit {0}
Begins p (b ∷ s) = p b ≡ true

-- a text, cut before the first byte that passes
pub record IsCut (p : ℕ → Bool) (s : List ℕ) : Type 0 where
  pub rest : List ℕ
  pub written : s ≡ before_first p s ++ rest
  pub begins : Begins p rest
  pub after : after_first p s ≡ drop 1 rest
  pub none : list_all (λ b. not (p b)) (before_first p s) ≡ true

pub cut-at-first : (p : ℕ → Bool) (s : List ℕ) → IsCut p s
cut-at-first p [] = record { rest = []; written = refl; begins = tt; after = refl; none = refl }
cut-at-first p (x ∷ s) = go (p x) refl (cut-at-first p s) where
  go : (t : Bool) → p x ≡ t → IsCut p s → IsCut p (x ∷ s)
  go true e cut = record { rest = x ∷ s; written = rw e refl; begins = e; after = rw e refl; none = rw e refl }
  go false e cut =
      let shifted : 1 + position_or_len p s ≡ suc (position_or_len p s) = omega arith in
      let next : suc (position_or_len p s) + 1 ≡ suc (position_or_len p s + 1) = omega arith in record {
        rest = cut.rest;
        written = rw (e, shifted) (ap (λ r. x ∷ r) cut.written);
        begins = cut.begins;
        after = rw (e, shifted, next) cut.after;
        none = rw (e, shifted, e) cut.none;
      }

-- ---- blanks

trim_start-again : (s : List ℕ) → trim_start (trim_start s) ≡ trim_start s
trim_start-again s = let k = trim_start-says s in sym (ap trim_start k.1 ∙ trim_start-blanks k.0 (trim_start s) k.2)

trim_end-again : (s : List ℕ) → trim_end (trim_end s) ≡ trim_end s
trim_end-again s = let k = trim_end-says s in sym (ap trim_end k.1 ∙ trim_end-blanks (trim_end s) k.0 k.2)

-- what begins a text that isn't trimmed
first-solid : (b : ℕ) (s : List ℕ) → trim_start (b ∷ s) ≡ b ∷ s → is_blank b ≡ false
first-solid b s e = go (is_blank b) refl where
  go : (t : Bool) → is_blank b ≡ t → is_blank b ≡ false
  go false h = h
  go true h =
      let k = trim_start-says s in
      let short : length (trim_start s) ≡ length (b ∷ s) = ap length (sym (trim_start-blank b s h) ∙ e) in
      let long : length s ≡ length k.0 + length (trim_start s) = ap length k.1 ∙ length-append k.0 (trim_start s) in
      absurd (omega (arith, short, long))

all-blank : (s : List ℕ) → list_all is_blank s ≡ true → trim_start s ≡ []
all-blank s p = ap trim_start (sym (append-nil s)) ∙ trim_start-blanks s [] p

-- blanks at both ends make no difference
trim-inside : (front s back : List ℕ) → list_all is_blank front ≡ true → list_all is_blank back ≡ true
    → trim (front ++ (s ++ back)) ≡ trim s
trim-inside front s back p q =
    let k = trim_start-says s in
    let start : trim_start (front ++ (s ++ back)) ≡ trim_start (trim_start s ++ back) =
    trim_start-blanks front (s ++ back) p
    ∙ ap (λ l. trim_start (l ++ back)) k.1 ∙ ap trim_start (append_assoc k.0 (trim_start s) back)
    ∙ trim_start-blanks k.0 (trim_start s ++ back) k.2 in
    ap trim_end start ∙ go (trim_start s) refl where
      go : (t : List ℕ) → trim_start s ≡ t → trim_end (trim_start (trim_start s ++ back)) ≡ trim_end (trim_start s)
      go [] h = rw h (ap trim_end (all-blank back q))
      go (b ∷ t) h =
          let solid = first-solid b t (ap trim_start (sym h) ∙ trim_start-again s ∙ h) in
          rw h (ap trim_end (trim_start-other b (t ++ back) solid) ∙ trim_end-blanks (b ∷ t) back q)

-- what is left of a text, where something is
trimmed-snug : (s : List ℕ) (b : ℕ) (t : List ℕ) → trim s ≡ b ∷ t → Snug (b ∷ t) × (is_blank b ≡ false)
trimmed-snug s b t h =
    let k = trim_end-says (trim_start s) in
    let start : trim_start s ≡ b ∷ (t ++ k.0) = k.1 ∙ ap (λ l. l ++ k.0) h in
    let solid = first-solid b (t ++ k.0) (ap trim_start (sym start) ∙ trim_start-again s ∙ start) in (
      record {
        some = omega arith;
        start = λ u. trim_start-other b (t ++ u) solid;
        blank = λ u. trim_start-blank 32 (b ∷ (t ++ u)) refl ∙ trim_start-other b (t ++ u) solid;
        end = ap trim_end (sym h) ∙ trim_end-again (trim_start s) ∙ h;
      },
      solid,
    )

-- ---- statements

-- what stands behind a label, as it is read
record HasBody (rest name operands : List ℕ) : Type 0 where
  pub some : 0 < length (trim rest)
  pub mnemonic : mnemonic_part (trim rest) ≡ name
  pub operands_are : cuts.operands_part (trim rest) ≡ trim operands

body-of : (front name operands : List ℕ) → list_all is_blank front ≡ true → list_all no_blank name ≡ true → 0 < length name
    → IsApart operands → HasBody (front ++ (name ++ operands)) name operands
body-of front name operands p solid some apart = go (trim operands) refl where
  around : (pad : List ℕ) × (x : List ℕ) × (back : List ℕ) × (operands ≡ pad ++ (x ++ back)) × (list_all is_blank pad ≡ true) × (x ≡ trim operands) × (list_all is_blank back ≡ true)
  around = padded-trim (λ x. x ≡ trim operands) operands refl

  snug : Snug name
  snug = Snug-solid name some solid

  go : (core : List ℕ) → trim operands ≡ core → HasBody (front ++ (name ++ operands)) name operands
  go [] h =
      let blank : list_all is_blank operands ≡ true =
      ap (list_all is_blank) around.3 ∙ list_all-append is_blank around.0 (around.1 ++ around.2) around.4
      (list_all-append is_blank around.1 around.2 (ap (list_all is_blank) (around.5 ∙ h)) around.6) in
      let body : trim (front ++ (name ++ operands)) ≡ name = trim-snug front name operands p snug blank in
      record {
        some = rw body some;
        mnemonic = rw body (before_first-none is_blank no_blank name solid-blank solid);
        operands_are = rw (body, h) (ap trim (after_first-none is_blank no_blank name solid-blank solid));
      }
  go (c ∷ core) h =
      let tight = trimmed-snug operands c core h in
      let text : operands ≡ around.0 ++ ((c ∷ core) ++ around.2) = around.3 ∙ ap (λ x. around.0 ++ (x ++ around.2)) (around.5 ∙ h) in
      between around.0 around.2 around.4 around.6 text tight.0 tight.1 where
        between : (pad back : List ℕ) → list_all is_blank pad ≡ true → list_all is_blank back ≡ true → operands ≡ pad ++ ((c ∷ core) ++ back)
            → Snug (c ∷ core) → is_blank c ≡ false → HasBody (front ++ (name ++ operands)) name operands
        between [] back q r text tight firm = let b = subst IsApart text apart in cc
        between (b ∷ pad) back q r text tight firm =
            let parts = and-both (is_blank b) (list_all is_blank pad) q in
            let line = name ++ ((b ∷ pad) ++ (c ∷ core)) in
            let group : (n x y z : List ℕ) → n ++ (x ++ (y ++ z)) ≡ (n ++ (x ++ y)) ++ z = λ n x y z. simp append_assoc in
            let body : trim (front ++ (name ++ operands)) ≡ line =
            ap (λ o. trim (front ++ (name ++ o))) text ∙ ap (λ l. trim (front ++ l)) (group name (b ∷ pad) (c ∷ core) back)
            ∙ trim-snug front line back p (Snug-append name (b ∷ pad) (c ∷ core) snug tight) r in
            let behind : trim (pad ++ (c ∷ core)) ≡ c ∷ core =
            ap (λ l. trim (pad ++ l)) (sym (append-nil (c ∷ core))) ∙ trim-snug pad (c ∷ core) [] parts.1 tight refl in
            record {
              some = rw body (omega (arith, some, length-append name ((b ∷ pad) ++ (c ∷ core))));
              mnemonic = rw body (before_first-at is_blank no_blank name b (pad ++ (c ∷ core)) solid-blank parts.0 solid);
              operands_are = rw (body, h) (ap trim (after_first-at is_blank no_blank name b (pad ++ (c ∷ core)) solid-blank parts.0 solid) ∙ behind);
            }

read_statement-some : (s : List ℕ) → 0 < length s → read_statement s ≡ of_mnemonic (named (mnemonic_part s)) (cuts.operands_part s)
read_statement-some [] h = absurd (omega arith)
read_statement-some (b ∷ s) h = refl

-- a statement is read so
word-body : (rest word operands : List ℕ) → IsInstruction rest word operands → HasBody rest word operands
word-body rest word operands i =
    subst (λ r. HasBody r word operands) (sym i.written) (body-of i.front word operands i.blank i.solid i.some i.apart)

found-so : (rest word operands : List ℕ) (m : Option Mnemonic) → IsInstruction rest word operands → named word ≡ m
    → read_statement (trim rest) ≡ of_mnemonic m (trim operands)
found-so rest word operands m i k =
    let body = word-body rest word operands i in
    read_statement-some (trim rest) body.some ∙ rw (body.mnemonic, body.operands_are, k) refl

pub formed-so : (rest operands : List ℕ) (m : Mnemonic) (t : Option Terms) → IsInstruction rest (name_of m) operands
    → terms_of (forms_of m) (trim operands) ≡ t → read_statement (trim rest) ≡ of_forms m t
formed-so rest operands m t i e = found-so rest (name_of m) operands (Some m) i (named-name_of m) ∙ ap (of_forms m) e

unnamed : (word : List ℕ) → ((m : Mnemonic) → name_of m ≡ word → ⊥) → named word ≡ None
unnamed word none = go (named word) refl where
  go : (t : Option Mnemonic) → named word ≡ t → named word ≡ None
  go None e = e
  go (Some m) e = absurd (none m (named-sound word m e))

unformed : (m : Mnemonic) (operands : List ℕ) → ((terms : Terms) → AreOperands (forms_of m) operands terms → ⊥)
    → terms_of (forms_of m) (trim operands) ≡ None
unformed m operands none = go (terms_of (forms_of m) (trim operands)) refl where
  go : (t : Option Terms) → terms_of (forms_of m) (trim operands) ≡ t → terms_of (forms_of m) (trim operands) ≡ None
  go None e = e
  go (Some terms) e = absurd (none terms ((operand-lists (forms_of m) operands terms).0 e))

pub says-statement : (rest : List ℕ) (r : LineReading (Option Statement)) → IsStatement rest r → read_statement (trim rest) ≡ r
says-statement rest (Ok None) known = ap (λ s. read_statement (trim_end s)) (all-blank rest known)
says-statement rest (Ok (Some said)) known =
    let terms = (operand-lists (forms_of known.0) known.1 known.2).1 known.4 in
    formed-so rest known.1 known.0 (Some known.2) known.3 terms ∙ rw (known.5, known.6) refl
says-statement rest (Err UnknownMnemonic) known = found-so rest known.0 known.1 None known.2 (unnamed known.0 known.3)
says-statement rest (Err WrongOperands) known = formed-so rest known.1 known.0 None known.2 (unformed known.0 known.1 known.3)
says-statement rest (Err OutOfRange) known =
    let terms = (operand-lists (forms_of known.0) known.1 known.2).1 known.4 in
    formed-so rest known.1 known.0 (Some known.2) known.3 terms ∙ rw known.5 refl
says-statement rest (Err (TooFar distance)) known = absurd known
says-statement rest (Err (LabelTwice first)) known = absurd known
says-statement rest (Err UnknownLabel) known = absurd known
says-statement rest (Err NotText) known = absurd known
says-statement rest (Err TooManySlots) known = absurd known

-- what stands behind a mnemonic
apart-append : (t back : List ℕ) → Begins is_blank t → list_all is_blank back ≡ true → IsApart (t ++ back)
apart-append [] [] b q = tt
apart-append [] (c ∷ back) b q = let parts = and-both (is_blank c) (list_all is_blank back) q in parts.0
apart-append (c ∷ t) back b q = b

behind-trim : (t back : List ℕ) → Begins is_blank t → list_all is_blank back ≡ true → trim (t ++ back) ≡ trim (drop 1 t)
behind-trim [] back b q = ap trim_end (all-blank back q)
behind-trim (c ∷ t) back b q = trim-inside (c ∷ []) t back (and-join (is_blank c) true b refl) q

-- the word that a text behind a label begins with, and what is apart from it
pub record HasWord (rest body : List ℕ) : Type 0 where
  pub operands : List ℕ
  pub whole : IsInstruction rest (mnemonic_part body) operands
  pub same : trim operands ≡ cuts.operands_part body

solid-some : (body : List ℕ) (cut : IsCut is_blank body) (b : ℕ) (s : List ℕ) → body ≡ b ∷ s → is_blank b ≡ false
    → 0 < length (mnemonic_part body)
solid-some body cut b s e firm = go (mnemonic_part body) refl where
  go : (word : List ℕ) → mnemonic_part body ≡ word → 0 < length (mnemonic_part body)
  go (c ∷ word) h = rw h (omega arith)
  go [] h =
      let first : b ∷ s ≡ cut.rest = sym e ∙ cut.written ∙ ap (λ w. w ++ cut.rest) h in
      let blank : is_blank b ≡ true = subst (Begins is_blank) (sym first) cut.begins in cc

word-from : (rest pad back : List ℕ) (b : ℕ) (s : List ℕ) → rest ≡ pad ++ ((b ∷ s) ++ back) → list_all is_blank pad ≡ true
    → list_all is_blank back ≡ true → is_blank b ≡ false → HasWord rest (b ∷ s)
word-from rest pad back b s text p q firm =
    let cut = cut-at-first is_blank (b ∷ s) in
    let group : (x y : List ℕ) → (x ++ y) ++ back ≡ x ++ (y ++ back) = λ x y. append_assoc x y back in
    record {
      operands = cut.rest ++ back;
      whole = record {
        front = pad;
        written = text ∙ ap (λ x. pad ++ (x ++ back)) cut.written ∙ ap (λ x. pad ++ x) (group (mnemonic_part (b ∷ s)) cut.rest);
        blank = p;
        some = solid-some (b ∷ s) cut b s refl firm;
        solid = cut.none;
        apart = apart-append cut.rest back cut.begins q;
      };
      same = behind-trim cut.rest back cut.begins q ∙ ap trim (sym cut.after);
    }

-- what a statement was read from
statement-of : (rest body : List ℕ) (m : Mnemonic) → HasWord rest body → name_of m ≡ mnemonic_part body → (t : Option Terms)
    → terms_of (forms_of m) (cuts.operands_part body) ≡ t → IsStatement rest (of_forms m t)
statement-of rest body m word name t e = formed t (ap (terms_of (forms_of m)) word.same ∙ e) where
  whole : IsInstruction rest (name_of m) word.operands
  whole = subst (λ n. IsInstruction rest n word.operands) (sym name) word.whole

  formed : (t : Option Terms) → terms_of (forms_of m) (trim word.operands) ≡ t → IsStatement rest (of_forms m t)
  formed None e = (m, word.operands, whole, λ terms fits. let read = (operand-lists (forms_of m) word.operands terms).1 fits in cc)
  formed (Some terms) e = ranged (insn_with m terms) refl where
    fits : AreOperands (forms_of m) word.operands terms
    fits = (operand-lists (forms_of m) word.operands terms).0 e

    ranged : (i : Option Insn) → insn_with m terms ≡ i → IsStatement rest (in_ranges i terms)
    ranged None r = (m, word.operands, terms, whole, fits, r)
    ranged (Some insn) r = (m, word.operands, terms, whole, fits, r, refl)

pub statement-reads : (rest : List ℕ) → IsStatement rest (read_statement (trim rest))
statement-reads rest = go (trim rest) refl where
  around : (pad : List ℕ) × (x : List ℕ) × (back : List ℕ) × (rest ≡ pad ++ (x ++ back)) × (list_all is_blank pad ≡ true) × (x ≡ trim rest) × (list_all is_blank back ≡ true)
  around = padded-trim (λ x. x ≡ trim rest) rest refl

  go : (body : List ℕ) → trim rest ≡ body → IsStatement rest (read_statement body)
  go [] h =
      ap (list_all is_blank) around.3 ∙ list_all-append is_blank around.0 (around.1 ++ around.2) around.4
      (list_all-append is_blank around.1 around.2 (ap (list_all is_blank) (around.5 ∙ h)) around.6)
  go (b ∷ s) h = found (named (mnemonic_part (b ∷ s))) refl where
    word : HasWord rest (b ∷ s)
    word =
        let text : rest ≡ around.0 ++ ((b ∷ s) ++ around.2) = around.3 ∙ ap (λ x. around.0 ++ (x ++ around.2)) (around.5 ∙ h) in
        word-from rest around.0 around.2 b s text around.4 around.6 (trimmed-snug rest b s h).1

    found : (m : Option Mnemonic) → named (mnemonic_part (b ∷ s)) ≡ m → IsStatement rest (of_mnemonic m (cuts.operands_part (b ∷ s)))
    found None k =
        (mnemonic_part (b ∷ s), word.operands, word.whole, λ m e. let known = named-name_of m in let same = ap named e in cc)
    found (Some m) k = statement-of rest (b ∷ s) m word (named-sound (mnemonic_part (b ∷ s)) m k) _ refl

-- ---- labels

abbrev no_semicolon : ℕ → Bool
no_semicolon b = not (b == 59)

not-semicolon : (b : ℕ) → not (b == 59) ≡ true → (b == 59) ≡ false
not-semicolon b p = grind (arith, nat_tests)

nat_lt-self : (n : ℕ) → nat_lt n n ≡ false
nat_lt-self n = grind (arith, nat_tests)

true-less : (a b : ℕ) → nat_lt a b ≡ true → a < b
true-less a b h = grind (arith, nat_tests)

less-true : (a b : ℕ) → a < b → nat_lt a b ≡ true
less-true a b h = grind (arith, nat_tests)

blank-colon : (b : ℕ) → is_blank b ≡ true → (b == 58) ≡ false
blank-colon b p = grind (arith, nat_tests)

-- a name and a colon are a label
labelled : (name rest : List ℕ) → is_name name ≡ true
    → (is_labelled (name ++ 58 ∷ rest) ≡ true) × (before 58 (name ++ 58 ∷ rest) ≡ name) × (after 58 (name ++ 58 ∷ rest) ≡ rest)
labelled name rest known =
    let plain = name-plain name known in
    let here = position_or_len-at (λ b. b == 58) is_plain name 58 rest plain-colon refl plain.1 in
    let front = before_first-at (λ b. b == 58) is_plain name 58 rest plain-colon refl plain.1 in
    let back = after_first-at (λ b. b == 58) is_plain name 58 rest plain-colon refl plain.1 in
    let within : nat_lt (position_or_len (λ b. b == 58) (name ++ 58 ∷ rest)) (length (name ++ 58 ∷ rest)) ≡ true =
    ap (λ n. nat_lt n (length (name ++ 58 ∷ rest))) here
    ∙ less-true (length name) (length (name ++ 58 ∷ rest)) (omega (arith, length-append name (58 ∷ rest))) in
    (and-join _ (is_name (before 58 (name ++ 58 ∷ rest))) within (ap is_name front ∙ known), front, back)

-- a text that is labelled, cut at its colon
labelled-says : (code : List ℕ) → is_labelled (trim_start code) ≡ true
    → IsLabelled code (before 58 (trim_start code)) (after 58 (trim_start code))
labelled-says code h =
    let start = trim_start-says code in
    let t = trim_start code in
    let parts = and-both (nat_lt (position_or_len (λ b. b == 58) t) (length t)) (is_name (before 58 t)) h in
    let cut = split-first (λ b. b == 58) t (true-less (position_or_len (λ b. b == 58) t) (length t) parts.0) in record {
      front = start.0;
      written = start.1 ∙ ap (λ x. start.0 ++ x) (cut.1 ∙ ap (λ c. before 58 t ++ c ∷ after 58 t) (eqb-true cut.0 58 cut.2));
      blank = start.2;
      named = parts.1;
    }

-- what is read of it
pub record ReadsLabel (code name rest : List ℕ) : Type 0 where
  pub labelled : is_labelled (trim_start code) ≡ true
  pub name_is : before 58 (trim_start code) ≡ name
  pub rest_is : after 58 (trim_start code) ≡ rest

pub says-labelled : (code name rest : List ℕ) → IsLabelled code name rest → ReadsLabel code name rest
says-labelled code name rest known =
    let tight = name-plain name known.named in
    let start : trim_start code ≡ name ++ 58 ∷ rest =
    ap trim_start known.written ∙ trim_start-blanks known.front (name ++ 58 ∷ rest) known.blank
    ∙ (Snug-plain name tight.0 tight.1).start (58 ∷ rest) in
    let parts = labelled name rest known.named in
    record {
      labelled = ap is_labelled start ∙ parts.0;
      name_is = ap (before 58) start ∙ parts.1;
      rest_is = ap (after 58) start ∙ parts.2;
    }

-- ---- lines

-- what stands before a comment
pub code-before : (code comment : List ℕ) → list_all no_semicolon code ≡ true → IsComment comment → without_comment (code ++ comment) ≡ code
code-before code [] p c =
    ap without_comment (append-nil code) ∙ before_first-none (λ b. b == 59) no_semicolon code not-semicolon p
code-before code (b ∷ s) p c =
    before_first-at (λ b. b == 59) no_semicolon code b s not-semicolon (ap (λ x. x == 59) c) p

-- the first that fails, where not all pass
record HasFailing (test : ℕ → Bool) (s : List ℕ) : Type 0 where
  pub front : List ℕ
  pub byte : ℕ
  pub rest : List ℕ
  pub written : s ≡ front ++ byte ∷ rest
  pub fails : test byte ≡ false

failing-in : (test : ℕ → Bool) (s : List ℕ) → list_all test s ≡ false → HasFailing test s
failing-in test [] h = cc
failing-in test (b ∷ s) h = go (test b) refl (λ e. failing-in test s e) where
  go : (t : Bool) → test b ≡ t → (list_all test s ≡ false → HasFailing test s) → HasFailing test (b ∷ s)
  go false e more = record { front = []; byte = b; rest = s; written = refl; fails = e }
  go true e more =
      let found = more (rw e at h) in
      record { front = b ∷ found.front; byte = found.byte; rest = found.rest; written = ap (λ r. b ∷ r) found.written; fails = found.fails }

list_all-front : (test : ℕ → Bool) (s t : List ℕ) → list_all test (s ++ t) ≡ true → list_all test s ≡ true
list_all-front test [] t p = refl
list_all-front test (b ∷ s) t p =
    let parts = and-both (test b) (list_all test (s ++ t)) p in and-join (test b) (list_all test s) parts.0 (list_all-front test s t parts.1)

code-past : (front t : List ℕ) → list_all no_semicolon front ≡ true → without_comment (front ++ t) ≡ front ++ without_comment t
code-past [] t p = refl
code-past (b ∷ front) t p =
    let parts = and-both (no_semicolon b) (list_all no_semicolon front) p in
    let shifted : 1 + position_or_len (λ x. x == 59) (front ++ t) ≡ suc (position_or_len (λ x. x == 59) (front ++ t)) = omega arith in
    rw (not-semicolon b parts.0, shifted) (ap (λ s. b ∷ s) (code-past front t parts.1))

strange-semicolon : (b : ℕ) → is_text b ≡ false → no_semicolon b ≡ true
strange-semicolon b h = grind (arith, nat_tests)

-- what is read of a line's code
says-code : (code rest : List ℕ) (label : Option (List ℕ)) (r : LineReading (Option Statement)) → IsLabel label code rest
    → IsStatement rest r → line_of (trim_start code) ≡ record { label = label; statement = r }
says-code code rest (Some name) r known states =
    let read = says-labelled code name rest known in
    rw (read.labelled, read.name_is, read.rest_is, says-statement rest r states) refl
says-code code rest None r known states = go (is_labelled (trim_start code)) refl where
  go : (t : Bool) → is_labelled (trim_start code) ≡ t → line_of (trim_start code) ≡ record { label = None; statement = r }
  go true h = absurd (known.1 (before 58 (trim_start code)) (after 58 (trim_start code)) (labelled-says code h))
  go false h =
      let read : read_statement (trim (trim_start code)) ≡ r =
      ap (λ s. read_statement (trim_end s)) (trim_start-again code) ∙ ap (λ s. read_statement (trim s)) known.0 ∙ says-statement rest r states in
      rw (h, read) refl

pub says-line : (line : List ℕ) (r : LineReading Line) → IsReading line r → read_line line ≡ r
says-line line (Ok said) known =
    let code = ap without_comment known.written ∙ code-before known.code known.comment known.plain known.comments in
    rw (code, known.text, says-code known.code known.rest said.label said.statement known.labels known.states) refl
says-line line (Err NotText) known =
    let whole = known.front ++ known.byte ∷ known.rest in
    let code : without_comment whole ≡ known.front ++ known.byte ∷ without_comment known.rest =
    code-past known.front (known.byte ∷ known.rest) known.plain
    ∙ ap (λ s. known.front ++ s) (code-past (known.byte ∷ []) known.rest (and-join _ true (strange-semicolon known.byte known.strange) refl)) in
    let strange : list_all is_text (without_comment line) ≡ false =
    ap (λ l. list_all is_text (without_comment l)) known.written ∙ ap (list_all is_text) code
    ∙ list_all-no is_text known.front known.byte (without_comment known.rest) known.strange in
    rw strange refl
says-line line (Err UnknownMnemonic) known = absurd known
says-line line (Err WrongOperands) known = absurd known
says-line line (Err OutOfRange) known = absurd known
says-line line (Err (TooFar distance)) known = absurd known
says-line line (Err (LabelTwice first)) known = absurd known
says-line line (Err UnknownLabel) known = absurd known
says-line line (Err TooManySlots) known = absurd known

-- what it was read from
comment-of : (s : List ℕ) → Begins (λ b. b == 59) s → IsComment s
comment-of [] b = tt
comment-of (c ∷ s) b = eqb-true c 59 b

pub record HasParts (code : List ℕ) (said : Line) : Type 0 where
  pub rest : List ℕ
  pub labels : IsLabel said.label code rest
  pub states : IsStatement rest said.statement

code-reads : (code : List ℕ) → HasParts code (line_of (trim_start code))
code-reads code = go (is_labelled (trim_start code)) refl where
  go : (t : Bool) → is_labelled (trim_start code) ≡ t → HasParts code (line_of (trim_start code))
  go true h = rw h (record {
    rest = after 58 (trim_start code);
    labels = labelled-says code h;
    states = statement-reads (after 58 (trim_start code));
  })
  go false h = rw h (record {
    rest = code;
    labels = (refl, λ name more known. let read = says-labelled code name more known in let yes = read.labelled in cc);
    states = subst (λ s. IsStatement code (read_statement (trim_end s))) (sym (trim_start-again code)) (statement-reads code);
  })

pub line-reads : (line : List ℕ) → IsReading line (read_line line)
line-reads line = go (list_all is_text (without_comment line)) refl where
  cut : IsCut (λ b. b == 59) line
  cut = cut-at-first (λ b. b == 59) line

  go : (t : Bool) → list_all is_text (without_comment line) ≡ t → IsReading line (read_line line)
  go true h =
      let parts = code-reads (without_comment line) in
      rw h (record {
        code = without_comment line;
        rest = parts.rest;
        comment = cut.rest;
        written = cut.written;
        text = h;
        plain = cut.none;
        comments = comment-of cut.rest cut.begins;
        labels = parts.labels;
        states = parts.states;
      })
  go false h =
      let found = failing-in is_text (without_comment line) h in
      rw h (record {
        front = found.front;
        byte = found.byte;
        rest = found.rest ++ cut.rest;
        written = cut.written ∙ ap (λ c. c ++ cut.rest) found.written ∙ append_assoc found.front (found.byte ∷ found.rest) cut.rest;
        plain = list_all-front no_semicolon found.front (found.byte ∷ found.rest) (ap (list_all no_semicolon) (sym found.written) ∙ cut.none);
        strange = found.fails;
      })
