-- Instructions as they may be written, and as they are made of what is read.
use Rattle.std.proofs.Common.{ℕ, ℤ, pos, ◌≡◌, ◌+◌, ◌+ℤ◌, ◌-ℤ◌, List, refl, ap, sym, ◌∙◌, subst, arith, Option, Some, None, option_map}
use Rattle.std.proofs.lemmas.Int.{ints}
use Rattle.bpf_isa.specs.declared.instruction.Insn.{Insn}
use Rattle.bpf_isa.specs.declared.instruction.Insn.TheVariants as insn
use Rattle.bpf_isa.specs.declared.instruction.Source.{Source}
use Rattle.bpf_isa.specs.declared.instruction.Source.TheVariants as source
use Rattle.bpf_isa.specs.declared.instruction.SourceKind.TheVariants as kind
use Rattle.bpf_isa.specs.declared.instruction.Address.{Address}
use Rattle.bpf_isa.specs.declared.instruction.WideValue.TheVariants as value
use Rattle.bpf_isa.specs.declared.mnemonic.WideKind.TheVariants as wide_kind
use Rattle.bpf_isa.specs.declared.mnemonic.Mnemonic.{Mnemonic}
use Rattle.bpf_isa.specs.declared.mnemonic.Mnemonic.TheVariants.{Binary, Negate, SignExtend, SwapBytes, JumpIf, Jump, JumpLong, CallHelper, CallLocal, Exit, Load, Store, Atomic, LoadWide}
use Rattle.bpf_isa.specs.Mnemonics.{mnemonic_of}
use Rattle.bpf_isa.specs.Programs.{slots_of}
use Rattle.bpf_text.specs.declared.read.number.Number.{Number}
use Rattle.bpf_text.specs.declared.read.labels.Definition.{Definition}
use Rattle.bpf_text.specs.declared.read.term.OperandForm.{OperandForm}
use Rattle.bpf_text.specs.declared.read.term.OperandForm.TheVariants as form
use Rattle.bpf_text.specs.declared.read.term.OperandForms.TheVariants as forms
use Rattle.bpf_text.specs.declared.read.term.Term.{Term}
use Rattle.bpf_text.specs.declared.read.term.Term.TheVariants as term
use Rattle.bpf_text.specs.declared.read.term.Terms.{Terms}
use Rattle.bpf_text.specs.declared.write.operand.Operand.{Operand}
use Rattle.bpf_text.specs.declared.write.operand.Operand.TheVariants.{Register, Signed, Unsigned, Hexadecimal, Memory, Target}
use Rattle.bpf_text.specs.declared.write.operand.Operands.{Operands}
use Rattle.bpf_text.specs.declared.write.operand.Operands.TheVariants.{Nothing, One, Two, Three}
use Rattle.bpf_text.specs.Labels.{Labels}
use Rattle.bpf_text.specs.Operands.{operand_of, operands_of}
use Rattle.bpf_text.proofs.Grammar.{IsOperand, AreOperands, one, two, three}
use Rattle.bpf_text.specs.Scaffolding.Instructions.{forms_of, insn_with, target_in, register_in, unsigned_in, immediate_in, wide_in, source_in, memory_in, name_in, of_one, of_two, of_three}
use Rattle.bpf_text.specs.Scaffolding.Tokens.{unsigned, immediate, wide, offset}
use Rattle.bpf_text.proofs.OperandGrammar.{map-some}
use Rattle.bpf_text.proofs.WrittenTerms.{HasForm, HaveForms, IsAlike, Keeps, AreKept}

-- the operands of an instruction are in the forms of its mnemonic
source-form : (s : Source) → HasForm form.Source (operand_of s)
source-form (source.Immediate value) = tt
source-form (source.Register r) = tt

pub insn-forms : (p : ℕ) (i : Insn) → HaveForms (forms_of (mnemonic_of i)) (operands_of p i)
insn-forms p (insn.Binary op width dst s) = (tt, source-form s)
insn-forms p (insn.JumpIf c width dst s o) = (tt, source-form s, tt)
insn-forms p (insn.Jump o) = tt
insn-forms p (insn.JumpLong d) = tt
insn-forms p (insn.CallLocal d) = tt
insn-forms p (insn.Store size to (source.Immediate v)) = (tt, tt)
insn-forms p (insn.Store size to (source.Register r)) = (tt, tt)
insn-forms p (insn.LoadWide dst (value.Number v)) = (tt, tt)
insn-forms p (insn.LoadWide dst (value.Map m)) = (tt, tt)
insn-forms p (insn.LoadWide dst (value.MapValue m o)) = (tt, tt, tt)
insn-forms p (insn.Negate width dst) = tt
insn-forms p (insn.SwapBytes order width dst) = tt
insn-forms p (insn.CallHelper h) = tt
insn-forms p insn.Exit = tt
insn-forms p i = (tt, tt)

-- the instruction with the distance 0
abbrev pub unplaced : Insn → Insn
unplaced (insn.JumpIf c width dst s o) = insn.JumpIf c width dst s (pos 0)
unplaced (insn.Jump o) = insn.Jump (pos 0)
unplaced (insn.JumpLong d) = insn.JumpLong (pos 0)
unplaced (insn.CallLocal d) = insn.CallLocal (pos 0)
unplaced i = i

pub slots_of-unplaced : (i : Insn) → slots_of (unplaced i) ≡ slots_of i
slots_of-unplaced (insn.JumpIf c width dst s o) = refl
slots_of-unplaced (insn.Jump o) = refl
slots_of-unplaced (insn.JumpLong d) = refl
slots_of-unplaced (insn.CallLocal d) = refl
slots_of-unplaced i = refl

-- an instruction with the distance of its target
abbrev pub at_distance : Insn → ℤ → Insn
at_distance (insn.JumpIf c width dst s o) d = insn.JumpIf c width dst s d
at_distance (insn.Jump o) d = insn.Jump d
at_distance (insn.JumpLong o) d = insn.JumpLong d
at_distance (insn.CallLocal o) d = insn.CallLocal d
at_distance i d = i

-- an instruction in slot p whose target has this name, if the label is there
abbrev pub resolved : Labels → ℕ → Insn → Option (List ℕ) → Option Insn
resolved labels p i None = Some i
resolved labels p i (Some q) = option_map (λ d. at_distance i (pos d.slot -ℤ pos (p + 1))) (labels q)

-- ---- what is kept of operands makes their instruction

there-and-back : (p d : ℕ) → pos (p + 1) +ℤ (pos d -ℤ pos (p + 1)) ≡ pos d
there-and-back p d = omega (arith, ints)

back-again : (p d : ℕ) (o : ℤ) → pos (p + 1) +ℤ o ≡ pos d → pos d -ℤ pos (p + 1) ≡ o
back-again p d o e = omega (arith, ints, e)

source-kept : (labels : Labels) (s : Source) (t : Term) → Keeps labels (operand_of s) t → source_in t ≡ Some s
source-kept labels (source.Immediate v) t k = rw (k.1, k.2) refl
source-kept labels (source.Register r) t k = rw k refl

abbrev pub IsMade : Labels → ℕ → Insn → Terms → Type 0
IsMade labels p i terms =
    (insn_with (mnemonic_of i) terms ≡ Some (unplaced i)) × (resolved labels p (unplaced i) (target_in terms) ≡ Some i)

pub kept-made : (labels : Labels) (p : ℕ) (i : Insn) (terms : Terms) → AreKept (Keeps labels) (operands_of p i) terms → IsMade labels p i terms
kept-made labels p (insn.Binary op width dst s) terms k = rw (k.2, k.3, source-kept labels s k.1 k.4) (refl, refl)
kept-made labels p (insn.Negate width dst) terms k = rw (k.1, k.2) (refl, refl)
kept-made labels p (insn.SignExtend e dst src) terms k = rw (k.2, k.3, k.4) (refl, refl)
kept-made labels p (insn.SwapBytes order width dst) terms k = rw (k.1, k.2) (refl, refl)
kept-made labels p (insn.JumpIf c width dst s o) terms k =
    let t = k.6 in
    let distance = ap (λ z. Some (insn.JumpIf c width dst s z)) (back-again p t.1.slot o t.4) in
    rw (k.3, k.4, source-kept labels s k.1 k.5, t.2, t.3) (refl, distance)
kept-made labels p (insn.Jump o) terms k =
    let t = k.2 in rw (k.1, t.2, t.3) (refl, ap (λ z. Some (insn.Jump z)) (back-again p t.1.slot o t.4))
kept-made labels p (insn.JumpLong o) terms k =
    let t = k.2 in rw (k.1, t.2, t.3) (refl, ap (λ z. Some (insn.JumpLong z)) (back-again p t.1.slot o t.4))
kept-made labels p (insn.CallHelper h) terms k = let t = k.2 in rw (k.1, t.1, t.2) (refl, refl)
kept-made labels p (insn.CallLocal o) terms k =
    let t = k.2 in rw (k.1, t.2, t.3) (refl, ap (λ z. Some (insn.CallLocal z)) (back-again p t.1.slot o t.4))
kept-made labels p insn.Exit terms k = rw k (refl, refl)
kept-made labels p (insn.Load size dst from) terms k = let t = k.4 in rw (k.2, k.3, t.1, t.2) (refl, refl)
kept-made labels p (insn.Store size to (source.Immediate v)) terms k =
    let t = k.3 in let u = k.4 in rw (k.2, t.1, t.2, u.1, u.2) (refl, refl)
kept-made labels p (insn.Store size to (source.Register r)) terms k = let t = k.3 in rw (k.2, t.1, t.2, k.4) (refl, refl)
kept-made labels p (insn.Atomic op width to src) terms k = let t = k.3 in rw (k.2, t.1, t.2, k.4) (refl, refl)
kept-made labels p (insn.LoadWide dst (value.Number v)) terms k = let t = k.4 in rw (k.2, k.3, t.1, t.2) (refl, refl)
kept-made labels p (insn.LoadWide dst (value.Map m)) terms k = let t = k.4 in rw (k.2, k.3, t.1, t.2) (refl, refl)
kept-made labels p (insn.LoadWide dst (value.MapValue m o)) terms k =
    let t = k.5 in let u = k.6 in rw (k.3, k.4, t.1, t.2, u.1, u.2) (refl, refl)

-- ---- what makes an instruction is kept of its operands

one-some : {A : Type 0} (a : Option A) (f : A → Insn) (i : Insn) → of_one a f ≡ Some i → (x : A) × (a ≡ Some x) × (f x ≡ i)
one-some None f i e = cc
one-some (Some x) f i e = (x, refl, (let same : f x ≡ i = cc in same))

two-some : {A B : Type 0} (a : Option A) (b : Option B) (f : A → B → Insn) (i : Insn) → of_two a b f ≡ Some i
    → (x : A) × (y : B) × (a ≡ Some x) × (b ≡ Some y) × (f x y ≡ i)
two-some None b f i e = cc
two-some (Some x) b f i e = let k = one-some b (f x) i e in (x, k.0, refl, k.1, k.2)

three-some : {A B C : Type 0} (a : Option A) (b : Option B) (c : Option C) (f : A → B → C → Insn) (i : Insn) → of_three a b c f ≡ Some i
    → (x : A) × (y : B) × (z : C) × (a ≡ Some x) × (b ≡ Some y) × (c ≡ Some z) × (f x y z ≡ i)
three-some None b c f i e = cc
three-some (Some x) b c f i e = let k = two-some b c (f x) i e in (x, k.0, k.1, refl, k.2, k.3, k.4)

is-register : (t : Term) (r : ℕ) → register_in t ≡ Some r → t ≡ term.Register r
is-register (term.Register q) r e = ap term.Register (let same : q ≡ r = cc in same)
is-register t r e = cc

is-unsigned : (t : Term) (v : ℕ) → unsigned_in t ≡ Some v → (n : Number) × (t ≡ term.Number n) × (unsigned n ≡ Some v)
is-unsigned (term.Number n) v e = (n, refl, e)
is-unsigned t v e = cc

is-immediate : (t : Term) (v : ℤ) → immediate_in t ≡ Some v → (n : Number) × (t ≡ term.Number n) × (immediate n ≡ Some v)
is-immediate (term.Number n) v e = (n, refl, e)
is-immediate t v e = cc

is-wide : (t : Term) (v : ℕ) → wide_in t ≡ Some v → (n : Number) × (t ≡ term.Number n) × (wide n ≡ Some v)
is-wide (term.Number n) v e = (n, refl, e)
is-wide t v e = cc

is-memory : (t : Term) (a : Address) → memory_in t ≡ Some a → (n : Number) × (t ≡ term.Memory a.base n) × (offset n ≡ Some a.offset)
is-memory (term.Memory b n) a e =
    let at : ℤ → Address = λ o. record { base = b; offset = o } in
    let k = map-some at (offset n) a e in
    subst (λ a. (n' : Number) × (term.Memory b n ≡ term.Memory a.base n') × (offset n' ≡ Some a.offset)) k.2 (n, refl, k.1)
is-memory t m e = cc

is-source : (labels : Labels) (t : Term) (s : Source) → source_in t ≡ Some s → Keeps labels (operand_of s) t
is-source labels (term.Register r) s e =
    let same : source.Register r ≡ s = cc in subst (λ s. Keeps labels (operand_of s) (term.Register r)) same refl
is-source labels (term.Number n) s e =
    let k = map-some source.Immediate (immediate n) s e in
    subst (λ s. Keeps labels (operand_of s) (term.Number n)) k.2 (n, refl, k.1)
is-source labels t s e = cc

shape-one : (f : OperandForm) (s : List ℕ) (terms : Terms) → AreOperands (forms.One f) s terms → terms ≡ one terms.first
shape-one f s terms k = subst (λ t. t ≡ one t.first) (sym k.2) refl

shape-two : (f g : OperandForm) (s : List ℕ) (terms : Terms) → AreOperands (forms.Two f g) s terms → terms ≡ two terms.first terms.second
shape-two f g s terms k = subst (λ t. t ≡ two t.first t.second) (sym k.7) refl

shape-three : (f g h : OperandForm) (s : List ℕ) (terms : Terms) → AreOperands (forms.Three f g h) s terms
    → terms ≡ three terms.first terms.second terms.third
shape-three f g h s terms k = subst (λ t. t ≡ three t.first t.second t.third) (sym k.10) refl

abbrev pub IsKeptAs : Labels → ℕ → Mnemonic → Terms → Insn → Type 0
IsKeptAs labels p m terms i = (mnemonic_of i ≡ m) × AreKept (Keeps labels) (operands_of p i) terms

-- an instruction without a target
still : (labels : Labels) (p : ℕ) (i found : Insn) (q : Option (List ℕ)) → ((d : ℤ) → at_distance i d ≡ i) → resolved labels p i q ≡ Some found → i ≡ found
still labels p i found None h e = (let same : i ≡ found = cc in same)
still labels p i found (Some q) h e = go (labels q) e where
  go : (o : Option Definition) → option_map (λ d. at_distance i (pos d.slot -ℤ pos (p + 1))) o ≡ Some found → i ≡ found
  go None e = cc
  go (Some d) e =
      let same : at_distance i (pos d.slot -ℤ pos (p + 1)) ≡ found = cc in sym (h (pos d.slot -ℤ pos (p + 1))) ∙ same

-- a target
name-of : (s : List ℕ) (t : Term) → IsOperand form.Name s t → (q : List ℕ) × (t ≡ term.Name q)
name-of s (term.Name q) k = (q, refl)
name-of s t k = absurd k

pub record Aims (labels : Labels) (p : ℕ) (i found : Insn) (t : Term) : Type 0 where
  pub distance : ℤ
  pub same : at_distance i distance ≡ found
  pub kept : Keeps labels (Target (pos (p + 1) +ℤ distance)) t

aims : (labels : Labels) (p : ℕ) (i found : Insn) (s : List ℕ) (t : Term) (target : Option (List ℕ)) → IsOperand form.Name s t
    → target ≡ name_in t → resolved labels p i target ≡ Some found → Aims labels p i found t
aims labels p i found s t target k is there =
    let n = name-of s t k in
    let named : target ≡ Some n.0 = is ∙ ap name_in n.1 in
    go n.0 n.1 (labels n.0) refl (subst (λ x. resolved labels p i x ≡ Some found) named there) where
      go : (q : List ℕ) → t ≡ term.Name q → (o : Option Definition) → labels q ≡ o → resolved labels p i (Some q) ≡ Some found
          → Aims labels p i found t
      go q e None l r = let none = rw l at r in cc
      go q e (Some d) l r =
          let known : Some (at_distance i (pos d.slot -ℤ pos (p + 1))) ≡ Some found = rw l at r in record {
            distance = pos d.slot -ℤ pos (p + 1);
            same = (let same : at_distance i (pos d.slot -ℤ pos (p + 1)) ≡ found = cc in same);
            kept = (q, d, e, l, there-and-back p d.slot);
          }

one-aims : (labels : Labels) (p : ℕ) (i found : Insn) (s : List ℕ) (terms : Terms) → AreOperands (forms.One form.Name) s terms
    → resolved labels p i (target_in terms) ≡ Some found → Aims labels p i found terms.first
one-aims labels p i found s terms k there =
    let first : k.0 ≡ terms.first = ap (λ t. t.first) (sym k.2) in
    let whole = k.1 in
    aims labels p i found whole.1 terms.first (target_in terms) (subst (IsOperand form.Name whole.1) first whole.5)
    (rw k.2 refl) there

three-aims : (f g : OperandForm) (labels : Labels) (p : ℕ) (i found : Insn) (s : List ℕ) (terms : Terms)
    → AreOperands (forms.Three f g form.Name) s terms → resolved labels p i (target_in terms) ≡ Some found → Aims labels p i found terms.third
three-aims f g labels p i found s terms k there =
    let third : k.5 ≡ terms.third = ap (λ t. t.third) (sym k.10) in
    let whole = k.9 in
    let name = subst (IsOperand form.Name whole.1) third whole.5 in
    let n = name-of whole.1 terms.third name in
    aims labels p i found whole.1 terms.third (target_in terms) name (rw n.1 refl) there

-- a part of an instruction: what it is of a term, and the operand that it is written as
pub record Part (labels : Labels) (A : Type 0) : Type 0 where
  pub of : Term → Option A
  pub operand : A → Operand
  pub kept : (t : Term) (x : A) → of t ≡ Some x → Keeps labels (operand x) t

abbrev register : (labels : Labels) → Part labels ℕ
register labels = record { of = register_in; operand = Register; kept = is-register }

abbrev unsigned-part : (labels : Labels) → Part labels ℕ
unsigned-part labels = record { of = unsigned_in; operand = Unsigned; kept = is-unsigned }

abbrev wide-part : (labels : Labels) → Part labels ℕ
wide-part labels = record { of = wide_in; operand = Hexadecimal; kept = is-wide }

abbrev signed-part : (labels : Labels) → Part labels ℤ
signed-part labels = record { of = immediate_in; operand = Signed; kept = is-immediate }

abbrev source-part : (labels : Labels) → Part labels Source
source-part labels = record { of = source_in; operand = operand_of; kept = is-source labels }

abbrev memory-part : (labels : Labels) → Part labels Address
memory-part labels = record { of = memory_in; operand = Memory; kept = is-memory }

-- an instruction of a mnemonic, with these operands and without a target
abbrev pub IsStill : ℕ → Mnemonic → Operands → Insn → Type 0
IsStill p m os i = (mnemonic_of i ≡ m) × (operands_of p i ≡ os) × ((d : ℤ) → at_distance i d ≡ i)

still-kept : (labels : Labels) (p : ℕ) (m : Mnemonic) (terms : Terms) (os : Operands) (made i found : Insn) → made ≡ i
    → resolved labels p i (target_in terms) ≡ Some found → IsStill p m os made → AreKept (Keeps labels) os terms → IsKeptAs labels p m terms found
still-kept labels p m terms os made i found e there is kept =
    let here = subst (λ x. resolved labels p x (target_in terms) ≡ Some found) (sym e) there in
    let known = subst (λ os. AreKept (Keeps labels) os terms) (sym is.1) kept in
    subst (IsKeptAs labels p m terms) (still labels p made found (target_in terms) is.2 here) (is.0, known)

made-one : {A : Type 0} (labels : Labels) (p : ℕ) (m : Mnemonic) (f : OperandForm) (s : List ℕ) (terms : Terms) (a : Part labels A)
    (make : A → Insn) (i found : Insn) → AreOperands (forms.One f) s terms → of_one (a.of terms.first) make ≡ Some i
    → resolved labels p i (target_in terms) ≡ Some found → ((x : A) → IsStill p m (One (a.operand x)) (make x)) → IsKeptAs labels p m terms found
made-one labels p m f s terms a make i found k made there is =
    let e = one-some (a.of terms.first) make i made in
    still-kept labels p m terms (One (a.operand e.0)) (make e.0) i found e.2 there (is e.0)
    (terms.first, shape-one f s terms k, a.kept terms.first e.0 e.1)

made-two : {A B : Type 0} (labels : Labels) (p : ℕ) (m : Mnemonic) (f g : OperandForm) (s : List ℕ) (terms : Terms) (a : Part labels A)
    (b : Part labels B) (make : A → B → Insn) (i found : Insn) → AreOperands (forms.Two f g) s terms
    → of_two (a.of terms.first) (b.of terms.second) make ≡ Some i → resolved labels p i (target_in terms) ≡ Some found
    → ((x : A) (y : B) → IsStill p m (Two (a.operand x) (b.operand y)) (make x y)) → IsKeptAs labels p m terms found
made-two labels p m f g s terms a b make i found k made there is =
    let e = two-some (a.of terms.first) (b.of terms.second) make i made in
    still-kept labels p m terms (Two (a.operand e.0) (b.operand e.1)) (make e.0 e.1) i found e.4 there (is e.0 e.1)
    (terms.first, terms.second, shape-two f g s terms k, a.kept terms.first e.0 e.2, b.kept terms.second e.1 e.3)

-- an instruction whose only operand is its target
abbrev pub IsAimed : ℕ → Mnemonic → (ℤ → Insn) → ℤ → Type 0
IsAimed p m make d = (mnemonic_of (make d) ≡ m) × (operands_of p (make d) ≡ One (Target (pos (p + 1) +ℤ d))) × (at_distance (make (pos 0)) d ≡ make d)

made-aimed : (labels : Labels) (p : ℕ) (m : Mnemonic) (s : List ℕ) (terms : Terms) (make : ℤ → Insn) (i found : Insn)
    → AreOperands (forms.One form.Name) s terms → make (pos 0) ≡ i → resolved labels p i (target_in terms) ≡ Some found
    → ((d : ℤ) → IsAimed p m make d) → IsKeptAs labels p m terms found
made-aimed labels p m s terms make i found k e there is =
    let here = subst (λ x. resolved labels p x (target_in terms) ≡ Some found) (sym e) there in
    let aim = one-aims labels p (make (pos 0)) found s terms k here in
    let known = is aim.distance in
    let kept : AreKept (Keeps labels) (One (Target (pos (p + 1) +ℤ aim.distance))) terms = (terms.first, shape-one form.Name s terms k, aim.kept) in
    subst (IsKeptAs labels p m terms) (sym known.2 ∙ aim.same) (known.0, subst (λ os. AreKept (Keeps labels) os terms) (sym known.1) kept)

pub made-kept : (labels : Labels) (p : ℕ) (m : Mnemonic) (s : List ℕ) (terms : Terms) (i found : Insn) → AreOperands (forms_of m) s terms
    → insn_with m terms ≡ Some i → resolved labels p i (target_in terms) ≡ Some found → IsKeptAs labels p m terms found
made-kept labels p (Binary op width) s terms i found k made there =
    made-two labels p (Binary op width) form.Register form.Source s terms (register labels) (source-part labels) (insn.Binary op width)
    i found k made there (λ x y. (refl, refl, λ d. refl))
made-kept labels p (Negate width) s terms i found k made there =
    made-one labels p (Negate width) form.Register s terms (register labels) (insn.Negate width) i found k made there (λ x. (refl, refl, λ d. refl))
made-kept labels p (SignExtend extension) s terms i found k made there =
    made-two labels p (SignExtend extension) form.Register form.Register s terms (register labels) (register labels) (insn.SignExtend extension)
    i found k made there (λ x y. (refl, refl, λ d. refl))
made-kept labels p (SwapBytes order width) s terms i found k made there =
    made-one labels p (SwapBytes order width) form.Register s terms (register labels) (insn.SwapBytes order width)
    i found k made there (λ x. (refl, refl, λ d. refl))
made-kept labels p (JumpIf c width) s terms i found k made there =
    let e = two-some (register_in terms.first) (source_in terms.second) (λ dst source. insn.JumpIf c width dst source (pos 0)) i made in
    let here = subst (λ x. resolved labels p x (target_in terms) ≡ Some found) (sym e.4) there in
    let aim = three-aims form.Register form.Source labels p (insn.JumpIf c width e.0 e.1 (pos 0)) found s terms k here in
    subst (IsKeptAs labels p (JumpIf c width) terms) aim.same (
      refl,
      (
        terms.first,
        terms.second,
        terms.third,
        shape-three form.Register form.Source form.Name s terms k,
        is-register terms.first e.0 e.2,
        is-source labels terms.second e.1 e.3,
        aim.kept,
      ),
    )
made-kept labels p Jump s terms i found k made there =
    made-aimed labels p Jump s terms insn.Jump i found k (let same : insn.Jump (pos 0) ≡ i = cc in same) there (λ d. (refl, refl, refl))
made-kept labels p JumpLong s terms i found k made there =
    made-aimed labels p JumpLong s terms insn.JumpLong i found k (let same : insn.JumpLong (pos 0) ≡ i = cc in same) there (λ d. (refl, refl, refl))
made-kept labels p CallHelper s terms i found k made there =
    made-one labels p CallHelper form.Unsigned s terms (unsigned-part labels) insn.CallHelper i found k made there (λ x. (refl, refl, λ d. refl))
made-kept labels p CallLocal s terms i found k made there =
    made-aimed labels p CallLocal s terms insn.CallLocal i found k (let same : insn.CallLocal (pos 0) ≡ i = cc in same) there (λ d. (refl, refl, refl))
made-kept labels p Exit s terms i found k made there =
    let same : insn.Exit ≡ i = cc in still-kept labels p Exit terms Nothing insn.Exit i found same there (refl, refl, λ d. refl) k.1
made-kept labels p (Load size) s terms i found k made there =
    made-two labels p (Load size) form.Register form.Memory s terms (register labels) (memory-part labels) (insn.Load size)
    i found k made there (λ x y. (refl, refl, λ d. refl))
made-kept labels p (Store size kind.Immediate) s terms i found k made there =
    made-two labels p (Store size kind.Immediate) form.Memory form.Signed s terms (memory-part labels) (signed-part labels)
    (λ to v. insn.Store size to (source.Immediate v)) i found k made there (λ x y. (refl, refl, λ d. refl))
made-kept labels p (Store size kind.Register) s terms i found k made there =
    made-two labels p (Store size kind.Register) form.Memory form.Register s terms (memory-part labels) (register labels)
    (λ to r. insn.Store size to (source.Register r)) i found k made there (λ x y. (refl, refl, λ d. refl))
made-kept labels p (Atomic op width) s terms i found k made there =
    made-two labels p (Atomic op width) form.Memory form.Register s terms (memory-part labels) (register labels) (insn.Atomic op width)
    i found k made there (λ x y. (refl, refl, λ d. refl))
made-kept labels p (LoadWide wide_kind.Number) s terms i found k made there =
    made-two labels p (LoadWide wide_kind.Number) form.Register form.Signed s terms (register labels) (wide-part labels)
    (λ dst v. insn.LoadWide dst (value.Number v)) i found k made there (λ x y. (refl, refl, λ d. refl))
made-kept labels p (LoadWide wide_kind.Map) s terms i found k made there =
    made-two labels p (LoadWide wide_kind.Map) form.Register form.Unsigned s terms (register labels) (unsigned-part labels)
    (λ dst m. insn.LoadWide dst (value.Map m)) i found k made there (λ x y. (refl, refl, λ d. refl))
made-kept labels p (LoadWide wide_kind.MapValue) s terms i found k made there =
    let make : ℕ → ℕ → ℕ → Insn = λ dst m o. insn.LoadWide dst (value.MapValue m o) in
    let e = three-some (register_in terms.first) (unsigned_in terms.second) (unsigned_in terms.third) make i made in
    still-kept labels p (LoadWide wide_kind.MapValue) terms (Three (Register e.0) (Unsigned e.1) (Unsigned e.2)) (make e.0 e.1 e.2) i found e.6 there
    (refl, refl, λ d. refl) (
      terms.first,
      terms.second,
      terms.third,
      shape-three form.Register form.Unsigned form.Unsigned s terms k,
      is-register terms.first e.0 e.3,
      is-unsigned terms.second e.1 e.4,
      is-unsigned terms.third e.2 e.5,
    )

-- ---- operands of a mnemonic's forms are alike to those of an instruction of it

register-of : (s : List ℕ) (t : Term) → IsOperand form.Register s t → (r : ℕ) × (t ≡ term.Register r)
register-of s (term.Register r) k = (r, refl)
register-of s t k = absurd k

unsigned-of : (s : List ℕ) (t : Term) → IsOperand form.Unsigned s t → (n : Number) × (t ≡ term.Number n)
unsigned-of s (term.Number n) k = (n, refl)
unsigned-of s t k = absurd k

signed-of : (s : List ℕ) (t : Term) → IsOperand form.Signed s t → (n : Number) × (t ≡ term.Number n)
signed-of s (term.Number n) k = (n, refl)
signed-of s t k = absurd k

source-of : (s : List ℕ) (t : Term) → IsOperand form.Source s t → (src : Source) × IsAlike (operand_of src) t
source-of s (term.Register r) k = (source.Register r, refl)
source-of s (term.Number n) k = (source.Immediate (pos 0), (n, refl))
source-of s t k = absurd k

memory-of : (s : List ℕ) (t : Term) → IsOperand form.Memory s t → (b : ℕ) × (n : Number) × (t ≡ term.Memory b n)
memory-of s (term.Memory b n) k = (b, n, refl)
memory-of s t k = absurd k

-- the address in a register
abbrev pub start : ℕ → Address
start r = record { base = r; offset = pos 0 }

abbrev pub HasAlike : ℕ → Mnemonic → Terms → Type 0
HasAlike p m terms = (i : Insn) × (mnemonic_of i ≡ m) × AreKept IsAlike (operands_of p i) terms

-- the terms of a register and a source, of a register and memory, of memory and a register
alike-name : (p : ℕ) (m : Mnemonic) (i : Insn) (z : ℤ) (s : List ℕ) (terms : Terms) → mnemonic_of i ≡ m → operands_of p i ≡ One (Target z)
    → AreOperands (forms.One form.Name) s terms → HasAlike p m terms
alike-name p m i z s terms e o k =
    let whole = k.1 in
    (i, e, rw o (k.0, k.2, name-of whole.1 k.0 whole.5))

pub operands-alike : (p : ℕ) (m : Mnemonic) (s : List ℕ) (terms : Terms) → AreOperands (forms_of m) s terms → HasAlike p m terms
operands-alike p (Binary op width) s terms k =
    let a = k.5 in let b = k.6 in
    let r = register-of a.1 k.2 a.5 in let src = source-of b.1 k.3 b.5 in
    (insn.Binary op width r.0 src.0, refl, (k.2, k.3, k.7, r.1, src.1))
operands-alike p (Negate width) s terms k =
    let a = k.1 in let r = register-of a.1 k.0 a.5 in (insn.Negate width r.0, refl, (k.0, k.2, r.1))
operands-alike p (SignExtend extension) s terms k =
    let a = k.5 in let b = k.6 in
    let r = register-of a.1 k.2 a.5 in let q = register-of b.1 k.3 b.5 in
    (insn.SignExtend extension r.0 q.0, refl, (k.2, k.3, k.7, r.1, q.1))
operands-alike p (SwapBytes order width) s terms k =
    let a = k.1 in let r = register-of a.1 k.0 a.5 in (insn.SwapBytes order width r.0, refl, (k.0, k.2, r.1))
operands-alike p (JumpIf c width) s terms k =
    let a = k.7 in let b = k.8 in let n = k.9 in
    let r = register-of a.1 k.3 a.5 in let src = source-of b.1 k.4 b.5 in
    (insn.JumpIf c width r.0 src.0 (pos 0), refl, (k.3, k.4, k.5, k.10, r.1, src.1, name-of n.1 k.5 n.5))
operands-alike p Jump s terms k = alike-name p Jump (insn.Jump (pos 0)) (pos (p + 1) +ℤ pos 0) s terms refl refl k
operands-alike p JumpLong s terms k = alike-name p JumpLong (insn.JumpLong (pos 0)) (pos (p + 1) +ℤ pos 0) s terms refl refl k
operands-alike p CallHelper s terms k =
    let a = k.1 in (insn.CallHelper 0, refl, (k.0, k.2, unsigned-of a.1 k.0 a.5))
operands-alike p CallLocal s terms k = alike-name p CallLocal (insn.CallLocal (pos 0)) (pos (p + 1) +ℤ pos 0) s terms refl refl k
operands-alike p Exit s terms k = (insn.Exit, refl, k.1)
operands-alike p (Load size) s terms k =
    let a = k.5 in let b = k.6 in
    let r = register-of a.1 k.2 a.5 in let m = memory-of b.1 k.3 b.5 in
    (insn.Load size r.0 (start m.0), refl, (k.2, k.3, k.7, r.1, (m.1, m.2)))
operands-alike p (Store size kind.Immediate) s terms k =
    let a = k.5 in let b = k.6 in
    let m = memory-of a.1 k.2 a.5 in
    (insn.Store size (start m.0) (source.Immediate (pos 0)), refl, (k.2, k.3, k.7, (m.1, m.2), signed-of b.1 k.3 b.5))
operands-alike p (Store size kind.Register) s terms k =
    let a = k.5 in let b = k.6 in
    let m = memory-of a.1 k.2 a.5 in let r = register-of b.1 k.3 b.5 in
    (insn.Store size (start m.0) (source.Register r.0), refl, (k.2, k.3, k.7, (m.1, m.2), r.1))
operands-alike p (Atomic op width) s terms k =
    let a = k.5 in let b = k.6 in
    let m = memory-of a.1 k.2 a.5 in let r = register-of b.1 k.3 b.5 in
    (insn.Atomic op width (start m.0) r.0, refl, (k.2, k.3, k.7, (m.1, m.2), r.1))
operands-alike p (LoadWide wide_kind.Number) s terms k =
    let a = k.5 in let b = k.6 in
    let r = register-of a.1 k.2 a.5 in (insn.LoadWide r.0 (value.Number 0), refl, (k.2, k.3, k.7, r.1, signed-of b.1 k.3 b.5))
operands-alike p (LoadWide wide_kind.Map) s terms k =
    let a = k.5 in let b = k.6 in
    let r = register-of a.1 k.2 a.5 in (insn.LoadWide r.0 (value.Map 0), refl, (k.2, k.3, k.7, r.1, unsigned-of b.1 k.3 b.5))
operands-alike p (LoadWide wide_kind.MapValue) s terms k =
    let a = k.7 in let b = k.8 in let c = k.9 in
    let r = register-of a.1 k.3 a.5 in
    (insn.LoadWide r.0 (value.MapValue 0 0), refl, (k.3, k.4, k.5, k.10, r.1, unsigned-of b.1 k.4 b.5, unsigned-of c.1 k.5 c.5))
