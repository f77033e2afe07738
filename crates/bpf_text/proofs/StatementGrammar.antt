-- What is read after a label is what may be written there.
use Rattle.std.proofs.Common.{ℕ, ℤ, pos, negsuc, ◌≡◌, ◌+◌, ◌-ℤ◌, ◌^◌, Bool, true, false, List, refl, ap, sym, ◌∙◌, subst, arith, inl, inr, Option, Some, None, Ok, Err, if◌then◌else◌}
use Rattle.std.proofs.lemmas.Bool.Decides.{nat_tests}
use Rattle.bpf_isa.specs.declared.instruction.Insn.{Insn}
use Rattle.bpf_isa.specs.declared.instruction.Insn.TheVariants as insn
use Rattle.bpf_isa.specs.Mnemonics.{mnemonic_of}
use Rattle.bpf_isa.specs.Programs.{slots_of}
use Rattle.bpf_isa.specs.declared.mnemonic.Mnemonic.{Mnemonic}
use Rattle.bpf_text.specs.declared.fault.LineFault.TheVariants.{UnknownMnemonic, WrongOperands, OutOfRange, TooFar, LabelTwice, UnknownLabel, NotText, TooManySlots}
use Rattle.bpf_text.specs.declared.read.labels.Definition.{Definition}
use Rattle.bpf_text.specs.declared.read.statement.Statement.{Statement}
use Rattle.bpf_text.specs.declared.read.term.Terms.{Terms}
use Rattle.bpf_text.specs.Labels.{Labels}
use Rattle.bpf_text.specs.LineGrammar.{LineReading, IsInstruction}
use Rattle.bpf_text.specs.Mnemonics.{name_of}
use Rattle.bpf_text.specs.Operands.{operands_of}
use Rattle.bpf_text.specs.Statements.{Spells, SaysInsn, Takes, Means, short_offset}
use Rattle.bpf_text.specs.Written.{IsWritten, IsShaped, IsWithin}
use Rattle.counted_io.specs.Cuts.{trim}
use Rattle.bpf_text.proofs.Grammar.{AreOperands}
use Rattle.bpf_text.specs.Scaffolding.Instructions.{forms_of, insn_with, target_in}
use Rattle.bpf_text.specs.Scaffolding.Lines.{read_statement, of_forms, in_ranges}
use Rattle.bpf_text.proofs.Readings.{IsStatement}
use Rattle.bpf_text.specs.Scaffolding.Rounds.{fits_offset, with_distance, with_label, with_target}
use Rattle.bpf_text.proofs.LineGrammar.{says-statement, statement-reads, formed-so}
use Rattle.bpf_text.proofs.OperandLists.{operand-lists}
use Rattle.bpf_text.proofs.WrittenTerms.{Keeps, IsAlike, written-read, read-written, shaped-read, read-shaped, listed-read, read-listed}
use Rattle.bpf_text.proofs.WrittenInsns.{insn-forms, unplaced, slots_of-unplaced, at_distance, resolved, kept-made, made-kept, operands-alike}

-- ---- instructions

-- what is read of an instruction that a text says
pub record IsSaid (labels : Labels) (p : ℕ) (s : List ℕ) (i : Insn) : Type 0 where
  pub target : Option (List ℕ)
  pub read : read_statement (trim s) ≡ Ok (Some (record { insn = unplaced i; target = target }))
  pub reaches : resolved labels p (unplaced i) target ≡ Some i

pub insn-said : (labels : Labels) (p : ℕ) (s : List ℕ) (i : Insn) → SaysInsn labels p s i → IsSaid labels p s i
insn-said labels p s i k =
    let m = mnemonic_of i in
    let r = listed-read (IsWritten labels) (Keeps labels) (written-read labels) (forms_of m) (operands_of p i) k.0 (insn-forms p i) k.2 in
    let made = kept-made labels p i r.0 r.2 in
    let formed = formed-so s k.0 m (Some r.0) k.1 ((operand-lists (forms_of m) k.0 r.0).1 r.1) in record {
      target = target_in r.0;
      read = formed ∙ rw (made.0) refl;
      reaches = made.1;
    }

-- the instruction of operands that are read
spelled : (labels : Labels) (p : ℕ) (s operands : List ℕ) (m : Mnemonic) (terms : Terms) (i found : Insn)
    → IsInstruction s (name_of m) operands → AreOperands (forms_of m) operands terms → insn_with m terms ≡ Some i
    → resolved labels p i (target_in terms) ≡ Some found → SaysInsn labels p s found
spelled labels p s operands m terms i found instruction known made there =
    let kept = made-kept labels p m operands terms i found known made there in
    let forms = subst (λ m. AreOperands (forms_of m) operands terms) (sym kept.0) known in (
      operands,
      subst (λ m. IsInstruction s (name_of m) operands) (sym kept.0) instruction,
      read-listed (IsWritten labels) (Keeps labels) (read-written labels) (forms_of (mnemonic_of found)) (operands_of p found) operands terms
          (insn-forms p found) forms kept.1,
    )

pub said-insn : (labels : Labels) (p : ℕ) (s : List ℕ) (said : Statement) (found : Insn) → read_statement (trim s) ≡ Ok (Some said)
    → resolved labels p said.insn said.target ≡ Some found → SaysInsn labels p s found
said-insn labels p s said found e there =
    let k = subst (IsStatement s) e (statement-reads s) in
    spelled labels p s k.1 k.0 k.2 said.insn found k.3 k.4 k.5 (ap (resolved labels p said.insn) k.6 ∙ there)

-- ---- shapes

-- the operands of a shape are read
record IsFormed (s : List ℕ) (i : Insn) : Type 0 where
  pub terms : Terms
  pub read : read_statement (trim s) ≡ of_forms (mnemonic_of i) (Some terms)

shape-formed : (p : ℕ) (s : List ℕ) (i : Insn) → Spells IsShaped p s i → IsFormed s i
shape-formed p s i k =
    let m = mnemonic_of i in
    let r = listed-read IsShaped IsAlike shaped-read (forms_of m) (operands_of p i) k.0 (insn-forms p i) k.2 in
    record { terms = r.0; read = formed-so s k.0 m (Some r.0) k.1 ((operand-lists (forms_of m) k.0 r.0).1 r.1) }

-- operands that are read have a shape
formed-shape : (p : ℕ) (s operands : List ℕ) (m : Mnemonic) (terms : Terms) → IsInstruction s (name_of m) operands
    → AreOperands (forms_of m) operands terms → (i : Insn) × Spells IsShaped p s i
formed-shape p s operands m terms instruction known =
    let a = operands-alike p m operands terms known in
    let i = a.0 in
    let forms = subst (λ m. AreOperands (forms_of m) operands terms) (sym a.1) known in (
      i,
      (
        operands,
        subst (λ m. IsInstruction s (name_of m) operands) (sym a.1) instruction,
        read-listed IsShaped IsAlike read-shaped (forms_of (mnemonic_of i)) (operands_of p i) operands terms (insn-forms p i) forms a.2,
      ),
    )

-- ---- the first round

-- how many slots what is read takes
abbrev pub slots_in : LineReading (Option Statement) → LineReading ℕ
slots_in (Ok None) = Ok 0
slots_in (Ok (Some said)) = Ok (slots_of said.insn)
slots_in (Err fault) = Err fault

-- a label of each name
abbrev pub everywhere : Labels
everywhere q = Some (record { line = 0; slot = 0 })

slots_of-at : (i : Insn) (d : ℤ) → slots_of (at_distance i d) ≡ slots_of i
slots_of-at (insn.JumpIf c width dst s o) d = refl
slots_of-at (insn.Jump o) d = refl
slots_of-at (insn.JumpLong o) d = refl
slots_of-at (insn.CallLocal o) d = refl
slots_of-at i d = refl

reached : (p : ℕ) (i : Insn) (target : Option (List ℕ)) → (found : Insn) × (resolved everywhere p i target ≡ Some found) × (slots_of found ≡ slots_of i)
reached p i None = (i, refl, refl)
reached p i (Some q) = (at_distance i (pos 0 -ℤ pos (p + 1)), refl, slots_of-at i (pos 0 -ℤ pos (p + 1)))

ranges-formed : (i : Option Insn) (terms : Terms) → in_ranges i terms ≡ Err WrongOperands → ⊥
ranges-formed None terms e = cc
ranges-formed (Some i) terms e = cc

-- no shape where operands are read as none
no-shape : (p : ℕ) (s : List ℕ) → read_statement (trim s) ≡ Err WrongOperands → (i : Insn) → Spells IsShaped p s i → ⊥
no-shape p s e i k =
    let f = shape-formed p s i k in ranges-formed (insn_with (mnemonic_of i) f.terms) f.terms (sym f.read ∙ e)

-- no instruction where numbers are out of range
no-insn : (p : ℕ) (s : List ℕ) → read_statement (trim s) ≡ Err OutOfRange → (labels : Labels) (i : Insn) → SaysInsn labels p s i → ⊥
no-insn p s e labels i k = let said = insn-said labels p s i k in let clash = sym said.read ∙ e in cc

takes-so : (p : ℕ) (s : List ℕ) (r : LineReading (Option Statement)) → read_statement (trim s) ≡ r → IsStatement s r → Takes p s (slots_in r)
takes-so p s (Ok None) e k = inl (k, refl)
takes-so p s (Ok (Some said)) e k =
    let f = reached p said.insn said.target in inr (everywhere, f.0, said-insn everywhere p s said f.0 e f.1, sym f.2)
takes-so p s (Err UnknownMnemonic) e k = k
takes-so p s (Err WrongOperands) e k = (k.0, k.1, k.2, no-shape p s e)
takes-so p s (Err OutOfRange) e k =
    let shape = formed-shape p s k.1 k.0 k.2 k.3 k.4 in (shape.0, shape.1, no-insn p s e)
takes-so p s (Err (TooFar distance)) e k = absurd k
takes-so p s (Err (LabelTwice first)) e k = absurd k
takes-so p s (Err UnknownLabel) e k = absurd k
takes-so p s (Err NotText) e k = absurd k
takes-so p s (Err TooManySlots) e k = absurd k

pub takes-read : (p : ℕ) (s : List ℕ) → Takes p s (slots_in (read_statement (trim s)))
takes-read p s = takes-so p s (read_statement (trim s)) refl (statement-reads s)

-- out of range, where no labels make an instruction of it
out-of-range : (p : ℕ) (s operands : List ℕ) (m : Mnemonic) (terms : Terms) → IsInstruction s (name_of m) operands
    → AreOperands (forms_of m) operands terms → ((labels : Labels) (i : Insn) → SaysInsn labels p s i → ⊥) → insn_with m terms ≡ None
out-of-range p s operands m terms instruction known none = go (insn_with m terms) refl where
  go : (o : Option Insn) → insn_with m terms ≡ o → insn_with m terms ≡ None
  go None e = e
  go (Some i) e =
      let f = reached p i (target_in terms) in
      absurd (none everywhere f.0 (spelled everywhere p s operands m terms i f.0 instruction known e f.1))

pub read-takes : (p : ℕ) (s : List ℕ) (r : LineReading ℕ) → Takes p s r → slots_in (read_statement (trim s)) ≡ r
read-takes p s (Ok n) (inl k) = ap slots_in (says-statement s (Ok None) k.0) ∙ ap Ok (sym k.1)
read-takes p s (Ok n) (inr k) =
    let said = insn-said k.0 p s k.1 k.2 in ap slots_in said.read ∙ ap Ok (slots_of-unplaced k.1 ∙ sym k.3)
read-takes p s (Err UnknownMnemonic) k = ap slots_in (says-statement s (Err UnknownMnemonic) k)
read-takes p s (Err WrongOperands) k =
    let none : (terms : Terms) → AreOperands (forms_of k.0) k.1 terms → ⊥ =
    (λ terms known. let shape = formed-shape p s k.1 k.0 terms k.2 known in k.3 shape.0 shape.1) in
    ap slots_in (says-statement s (Err WrongOperands) (k.0, k.1, k.2, none))
read-takes p s (Err OutOfRange) k =
    let m = mnemonic_of k.0 in
    let whole = k.1 in
    let r = listed-read IsShaped IsAlike shaped-read (forms_of m) (operands_of p k.0) whole.0 (insn-forms p k.0) whole.2 in
    let none = out-of-range p s whole.0 m r.0 whole.1 r.1 k.2 in
    ap slots_in (says-statement s (Err OutOfRange) (m, whole.0, r.0, whole.1, r.1, none))
read-takes p s (Err (TooFar distance)) k = absurd k
read-takes p s (Err (LabelTwice first)) k = absurd k
read-takes p s (Err UnknownLabel) k = absurd k
read-takes p s (Err NotText) k = absurd k
read-takes p s (Err TooManySlots) k = absurd k

-- ---- the second round

-- an instruction, if its distance has room
abbrev pub checked : Insn → LineReading Insn
checked i = if fits_offset (short_offset i) then Ok i else Err (TooFar (short_offset i))

unplaced-checked : (i : Insn) → Ok (unplaced i) ≡ checked (unplaced i)
unplaced-checked (insn.JumpIf c width dst s o) = refl
unplaced-checked (insn.Jump o) = refl
unplaced-checked (insn.JumpLong o) = refl
unplaced-checked (insn.CallLocal o) = refl
unplaced-checked i = refl

with_distance-checked : (i : Insn) (d : ℤ) → with_distance i d ≡ checked (at_distance i d)
with_distance-checked (insn.JumpIf c width dst s o) d = refl
with_distance-checked (insn.Jump o) d = refl
with_distance-checked (insn.JumpLong o) d = refl
with_distance-checked (insn.CallLocal o) d = refl
with_distance-checked i d = kept i d where
  kept : (i : Insn) (d : ℤ) → with_distance i d ≡ checked (at_distance i d)
  kept (insn.Binary op width dst s) d = refl
  kept (insn.Negate width dst) d = refl
  kept (insn.SignExtend e dst src) d = refl
  kept (insn.SwapBytes order width dst) d = refl
  kept (insn.JumpIf c width dst s o) d = refl
  kept (insn.Jump o) d = refl
  kept (insn.JumpLong o) d = refl
  kept (insn.CallHelper h) d = refl
  kept (insn.CallLocal o) d = refl
  kept insn.Exit d = refl
  kept (insn.Load size dst from) d = refl
  kept (insn.Store size to s) d = refl
  kept (insn.Atomic op width to src) d = refl
  kept (insn.LoadWide dst v) d = refl

target-checked : (labels : Labels) (p : ℕ) (i : Insn) (target : Option (List ℕ)) → resolved labels p (unplaced i) target ≡ Some i
    → with_target labels p (unplaced i) target ≡ checked i
target-checked labels p i None e =
    let same : unplaced i ≡ i = cc in unplaced-checked i ∙ ap checked same
target-checked labels p i (Some q) e = go (labels q) refl where
  go : (o : Option Definition) → labels q ≡ o → with_target labels p (unplaced i) (Some q) ≡ checked i
  go None l = let none = rw l at e in cc
  go (Some d) l =
      let distance = pos d.slot -ℤ pos (p + 1) in
      let known : Some (at_distance (unplaced i) distance) ≡ Some i = rw l at e in
      let same : at_distance (unplaced i) distance ≡ i = cc in
      ap (with_label p (unplaced i)) l ∙ with_distance-checked (unplaced i) distance ∙ ap checked same

target-none : (labels : Labels) (p : ℕ) (i : Insn) (target : Option (List ℕ)) → resolved labels p i target ≡ None
    → with_target labels p i target ≡ Err UnknownLabel
target-none labels p i None e = cc
target-none labels p i (Some q) e = go (labels q) refl where
  go : (o : Option Definition) → labels q ≡ o → with_target labels p i (Some q) ≡ Err UnknownLabel
  go None l = ap (with_label p i) l
  go (Some d) l = let none = rw l at e in cc

-- distances that have room
fits-within : (z : ℤ) → fits_offset z ≡ true → IsWithin (2 ^ 15) (2 ^ 15) z
fits-within (pos n) h = grind (arith, nat_tests)
fits-within (negsuc n) h = grind (arith, nat_tests)

within-fits : (z : ℤ) → IsWithin (2 ^ 15) (2 ^ 15) z → fits_offset z ≡ true
within-fits (pos n) h = grind (arith, nat_tests)
within-fits (negsuc n) h = grind (arith, nat_tests)

over-fits : (z : ℤ) → (IsWithin (2 ^ 15) (2 ^ 15) z → ⊥) → fits_offset z ≡ false
over-fits z over = go (fits_offset z) refl where
  go : (t : Bool) → fits_offset z ≡ t → fits_offset z ≡ false
  go false e = e
  go true e = absurd (over (fits-within z e))

-- what is read of a text whose target is looked for
pub record IsResolved (labels : Labels) (p : ℕ) (s : List ℕ) (r : LineReading Insn) : Type 0 where
  pub said : Statement
  pub read : read_statement (trim s) ≡ Ok (Some said)
  pub gives : with_target labels p said.insn said.target ≡ r

resolved-so : (labels : Labels) (p : ℕ) (s : List ℕ) (i : Insn) (r : LineReading Insn) → SaysInsn labels p s i → checked i ≡ r
    → IsResolved labels p s r
resolved-so labels p s i r k e =
    let known = insn-said labels p s i k in record {
      said = record { insn = unplaced i; target = known.target };
      read = known.read;
      gives = target-checked labels p i known.target known.reaches ∙ e;
    }

pub means-read : (labels : Labels) (p : ℕ) (s : List ℕ) (r : LineReading Insn) → Means labels p s r → IsResolved labels p s r
means-read labels p s (Ok i) k = resolved-so labels p s i (Ok i) k.0 (rw (within-fits (short_offset i) k.1) refl)
means-read labels p s (Err (TooFar distance)) k =
    let over : fits_offset (short_offset k.0) ≡ false = ap fits_offset k.2 ∙ over-fits distance k.3 in
    resolved-so labels p s k.0 (Err (TooFar distance)) k.1 (rw over (ap (λ d. Err (TooFar d)) k.2))
means-read labels p s (Err UnknownLabel) k = go (resolved labels p (unplaced k.1) known.target) refl where
  known : IsSaid k.0 p s k.1
  known = insn-said k.0 p s k.1 k.2

  go : (o : Option Insn) → resolved labels p (unplaced k.1) known.target ≡ o → IsResolved labels p s (Err UnknownLabel)
  go None e = record {
    said = record { insn = unplaced k.1; target = known.target };
    read = known.read;
    gives = target-none labels p (unplaced k.1) known.target e;
  }
  go (Some found) e =
      absurd (k.3 found (said-insn labels p s (record { insn = unplaced k.1; target = known.target }) found known.read e))
means-read labels p s (Err UnknownMnemonic) k = absurd k
means-read labels p s (Err WrongOperands) k = absurd k
means-read labels p s (Err OutOfRange) k = absurd k
means-read labels p s (Err (LabelTwice first)) k = absurd k
means-read labels p s (Err NotText) k = absurd k
means-read labels p s (Err TooManySlots) k = absurd k

checked-means : (labels : Labels) (p : ℕ) (s : List ℕ) (i : Insn) → SaysInsn labels p s i → Means labels p s (checked i)
checked-means labels p s i k = go (fits_offset (short_offset i)) refl where
  go : (t : Bool) → fits_offset (short_offset i) ≡ t → Means labels p s (if t then Ok i else Err (TooFar (short_offset i)))
  go true e = (k, fits-within (short_offset i) e)
  go false e = (i, k, refl, λ w. let clash = sym e ∙ within-fits (short_offset i) w in cc)

pub read-means : (labels : Labels) (p : ℕ) (s : List ℕ) (said : Statement) → read_statement (trim s) ≡ Ok (Some said)
    → Means labels p s (with_target labels p said.insn said.target)
read-means labels p s said e = go (resolved labels p said.insn said.target) refl where
  go : (o : Option Insn) → resolved labels p said.insn said.target ≡ o → Means labels p s (with_target labels p said.insn said.target)
  go None none =
      let f = reached p said.insn said.target in
      let no : (i : Insn) → SaysInsn labels p s i → ⊥ =
      (λ i k. let known = insn-said labels p s i k in
      let same : said ≡ record { insn = unplaced i; target = known.target } = (let both = sym e ∙ known.read in cc) in
      let there = ap (λ x. resolved labels p x.insn x.target) same ∙ known.reaches in
      let clash = sym none ∙ there in cc) in
      subst (Means labels p s) (sym (target-none labels p said.insn said.target none))
      (everywhere, f.0, said-insn everywhere p s said f.0 e f.1, no)
  go (Some found) there =
      let k = said-insn labels p s said found e there in
      let known = insn-said labels p s found k in
      let same : record { insn = unplaced found; target = known.target } ≡ said = (let both = sym known.read ∙ e in cc) in
      let gives = ap (λ x. with_target labels p x.insn x.target) (sym same) ∙ target-checked labels p found known.target known.reaches in
      subst (Means labels p s) (sym gives) (checked-means labels p s found k)

-- a text says one instruction at most
abbrev pub resolution : Labels → ℕ → LineReading (Option Statement) → Option Insn
resolution labels p (Ok (Some said)) = resolved labels p said.insn said.target
resolution labels p (Ok None) = None
resolution labels p (Err fault) = None

resolution-is : (labels : Labels) (p : ℕ) (s : List ℕ) (i : Insn) → IsSaid labels p s i → resolution labels p (read_statement (trim s)) ≡ Some i
resolution-is labels p s i k = ap (resolution labels p) k.read ∙ k.reaches

pub resolved-once : (labels : Labels) (p : ℕ) (s : List ℕ) (a b : Insn) → IsSaid labels p s a → IsSaid labels p s b → a ≡ b
resolved-once labels p s a b k l = some a b (sym (resolution-is labels p s a k) ∙ resolution-is labels p s b l) where
  some : (a b : Insn) → Some a ≡ Some b → a ≡ b
  some a b e = cc
