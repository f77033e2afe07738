-- Operands as they may be written, and as they are read.
use Rattle.std.proofs.Common.{ℕ, ℤ, pos, ◌≡◌, ◌^◌, false, List, refl, ap, sym, ◌∙◌, subst, Some}
use Rattle.bpf_text.specs.declared.read.number.Number.{Number}
use Rattle.bpf_text.specs.declared.read.labels.Definition.{Definition}
use Rattle.bpf_text.specs.declared.read.term.OperandForm.{OperandForm}
use Rattle.bpf_text.specs.declared.read.term.OperandForm.TheVariants as form
use Rattle.bpf_text.specs.declared.read.term.OperandForms.{OperandForms}
use Rattle.bpf_text.specs.declared.read.term.OperandForms.TheVariants as forms
use Rattle.bpf_text.specs.declared.read.term.Term.{Term}
use Rattle.bpf_text.specs.declared.read.term.Term.TheVariants as term
use Rattle.bpf_text.specs.declared.read.term.Terms.{Terms}
use Rattle.bpf_text.specs.declared.write.operand.Operand.{Operand}
use Rattle.bpf_text.specs.declared.write.operand.Operand.TheVariants.{Register, Signed, Unsigned, Hexadecimal, Memory, Target}
use Rattle.bpf_text.specs.declared.write.operand.Operands.{Operands}
use Rattle.bpf_text.specs.declared.write.operand.Operands.TheVariants.{Nothing, One, Two, Three}
use Rattle.counted_io.specs.Numerals.{IsNatural}
use Rattle.bpf_text.specs.Labels.{Labels}
use Rattle.bpf_text.specs.Written.{IsWithin, IsInside, IsWritten, IsShaped, AreListed, low_bits}
use Rattle.std.specs.Int.{w32, cast_signed}
use Rattle.bpf_text.proofs.Grammar.{IsOperand, AreOperands, one, two, three}
use Rattle.bpf_text.specs.Scaffolding.Tokens.{number_with, unsigned, immediate, wide, offset}
use Rattle.bpf_text.proofs.TokenTexts.{unsigned-fits}
use Rattle.bpf_text.proofs.WrittenNumbers.{whole, integer-of, number-of, inside-of, inside-number, unsigned-range, immediate-range, range-immediate, wide-range, range-wide, offset-range, range-offset}

-- the forms in which an operand is written
abbrev pub HasForm : OperandForm → Operand → Type 0
HasForm form.Register (Register r) = Unit {0}
HasForm form.Unsigned (Unsigned n) = Unit {0}
HasForm form.Signed (Signed z) = Unit {0}
HasForm form.Signed (Hexadecimal n) = Unit {0}
HasForm form.Source (Register r) = Unit {0}
HasForm form.Source (Signed z) = Unit {0}
HasForm form.Memory (Memory a) = Unit {0}
HasForm form.Name (Target p) = Unit {0}
HasForm f o = ⊥

abbrev pub HaveForms : OperandForms → Operands → Type 0
HaveForms forms.Nothing Nothing = Unit {0}
HaveForms (forms.One f) (One a) = HasForm f a
HaveForms (forms.Two f g) (Two a b) = HasForm f a × HasForm g b
HaveForms (forms.Three f g h) (Three a b c) = HasForm f a × HasForm g b × HasForm h c
HaveForms fs os = ⊥

-- what a term is to an operand that it is read for, whatever its number or label
abbrev pub IsAlike : Operand → Term → Type 0
IsAlike (Register r) t = t ≡ term.Register r
IsAlike (Signed v) t = (n : Number) × (t ≡ term.Number n)
IsAlike (Unsigned v) t = (n : Number) × (t ≡ term.Number n)
IsAlike (Hexadecimal v) t = (n : Number) × (t ≡ term.Number n)
IsAlike (Memory a) t = (n : Number) × (t ≡ term.Memory a.base n)
IsAlike (Target z) t = (q : List ℕ) × (t ≡ term.Name q)

-- and with them
abbrev pub Keeps : Labels → Operand → Term → Type 0
Keeps labels (Register r) t = t ≡ term.Register r
Keeps labels (Signed v) t = (n : Number) × (t ≡ term.Number n) × (immediate n ≡ Some v)
Keeps labels (Unsigned v) t = (n : Number) × (t ≡ term.Number n) × (unsigned n ≡ Some v)
Keeps labels (Hexadecimal v) t = (n : Number) × (t ≡ term.Number n) × (wide n ≡ Some v)
Keeps labels (Memory a) t = (n : Number) × (t ≡ term.Memory a.base n) × (offset n ≡ Some a.offset)
Keeps labels (Target z) t = (q : List ℕ) × (d : Definition) × (t ≡ term.Name q) × (labels q ≡ Some d) × (z ≡ pos d.slot)

-- an operand of a form is read as such a term
abbrev pub IsReadAs : (Operand → Term → Type 0) → OperandForm → Operand → List ℕ → Type 0
IsReadAs K f o s = (t : Term) × IsOperand f s t × K o t

pub shaped-read : (f : OperandForm) (o : Operand) (s : List ℕ) → HasForm f o → IsShaped o s → IsReadAs IsAlike f o s
shaped-read form.Register (Register r) s h known = (term.Register r, known, refl)
shaped-read form.Source (Register r) s h known = (term.Register r, known, refl)
shaped-read form.Unsigned (Unsigned v) s h known =
    let n = number_with false known.0 in (term.Number n, (refl, known.1), (n, refl))
shaped-read form.Signed (Signed v) s h known =
    let k = number-of s known.0 known.1 in (term.Number k.0, k.1, (k.0, refl))
shaped-read form.Source (Signed v) s h known =
    let k = number-of s known.0 known.1 in (term.Number k.0, k.1, (k.0, refl))
shaped-read form.Signed (Hexadecimal v) s h known =
    let k = number-of s known.0 known.1 in (term.Number k.0, k.1, (k.0, refl))
shaped-read form.Memory (Memory a) s h known =
    let m = known.1 in
    let k = inside-number m.0 a.base known.0 m.2 in (term.Memory a.base k.0, (m.0, m.1, k.1), (k.0, refl))
shaped-read form.Name (Target z) s h known = (term.Name s, (refl, known), (s, refl))
shaped-read f o s h known = absurd h

signed-read : (s : List ℕ) (v : ℤ) (labels : Labels) → IsWritten labels (Signed v) s
    → (t : Term) × IsOperand form.Signed s t × Keeps labels (Signed v) t
signed-read s v labels known =
    let k = number-of s known.0 known.1 in
    let within = subst (IsWithin (2 ^ 31) (2 ^ 32)) k.2 known.2 in
    let value = ap (λ z. cast_signed w32 (low_bits 32 z)) (sym k.2) ∙ known.3 in
    (term.Number k.0, k.1, (k.0, refl, range-immediate k.0.negative k.0.magnitude v within value))

pub written-read : (labels : Labels) (f : OperandForm) (o : Operand) (s : List ℕ) → HasForm f o → IsWritten labels o s
    → IsReadAs (Keeps labels) f o s
written-read labels form.Register (Register r) s h known = (term.Register r, known, refl)
written-read labels form.Source (Register r) s h known = (term.Register r, known, refl)
written-read labels form.Unsigned (Unsigned v) s h known =
    let n = number_with false v in (term.Number n, (refl, known.0), (n, refl, unsigned-fits v known.1))
written-read labels form.Signed (Signed v) s h known = signed-read s v labels known
written-read labels form.Source (Signed v) s h known =
    let r = signed-read s v labels known in
    let k = r.2 in (term.Number k.0, subst (IsOperand form.Signed s) k.1 r.1, (k.0, refl, k.2))
written-read labels form.Signed (Hexadecimal v) s h known =
    let k = number-of s known.0 known.1 in
    let within = subst (IsWithin (2 ^ 63) (2 ^ 64)) k.2 known.2 in
    let value = ap (low_bits 64) (sym k.2) ∙ known.3 in
    (term.Number k.0, k.1, (k.0, refl, range-wide k.0.negative k.0.magnitude v within value))
written-read labels form.Memory (Memory a) s h known =
    let m = known.0 in
    let k = inside-number m.0 a.base a.offset m.2 in
    let within = subst (IsWithin (2 ^ 15) (2 ^ 15)) k.2 known.1 in
    (term.Memory a.base k.0, (m.0, m.1, k.1), (k.0, refl, range-offset k.0.negative k.0.magnitude within ∙ ap Some (sym k.2)))
written-read labels form.Name (Target z) s h known = (term.Name s, (refl, known.0), (s, known.1, refl, known.2, known.3))
written-read labels f o s h known = absurd h

-- and what is read as such a term is written so
signed-written : (s : List ℕ) (v : ℤ) (labels : Labels) (t : Term) → IsOperand form.Signed s t → Keeps labels (Signed v) t
    → IsWritten labels (Signed v) s
signed-written s v labels t read kept =
    let n = kept.0 in
    let range = immediate-range n.negative n.magnitude v kept.2 in
    (whole n, integer-of s n (subst (IsOperand form.Signed s) kept.1 read), range.0, range.1)

pub read-written : (labels : Labels) (f : OperandForm) (o : Operand) (s : List ℕ) (t : Term) → HasForm f o → IsOperand f s t
    → Keeps labels o t → IsWritten labels o s
read-written labels form.Register (Register r) s t h read kept = subst (IsOperand form.Register s) kept read
read-written labels form.Source (Register r) s t h read kept = subst (IsOperand form.Source s) kept read
read-written labels form.Unsigned (Unsigned v) s t h read kept =
    let n = kept.0 in
    let whole = subst (IsOperand form.Unsigned s) kept.1 read in
    let range = unsigned-range n.negative n.magnitude v kept.2 in (subst (IsNatural s) range.0 whole.1, range.1)
read-written labels form.Signed (Signed v) s t h read kept = signed-written s v labels t read kept
read-written labels form.Source (Signed v) s t h read kept =
    signed-written s v labels (term.Number kept.0) (subst (IsOperand form.Source s) kept.1 read) (kept.0, refl, kept.2)
read-written labels form.Signed (Hexadecimal v) s t h read kept =
    let n = kept.0 in
    let range = wide-range n.negative n.magnitude v kept.2 in
    (whole n, integer-of s n (subst (IsOperand form.Signed s) kept.1 read), range.0, range.1)
read-written labels form.Memory (Memory a) s t h read kept =
    let n = kept.0 in
    let m = subst (IsOperand form.Memory s) kept.1 read in
    let range = offset-range n.negative n.magnitude a.offset kept.2 in
    ((m.0, m.1, subst (IsInside m.0 a.base) range.1 (inside-of m.0 a.base n m.2)), subst (IsWithin (2 ^ 15) (2 ^ 15)) range.1 range.0)
read-written labels form.Name (Target z) s t h read kept =
    let m = subst (IsOperand form.Name s) kept.2 read in
    (m.1, kept.1, ap labels (sym m.0) ∙ kept.3, kept.4)
read-written labels f o s t h read kept = absurd h

pub read-shaped : (f : OperandForm) (o : Operand) (s : List ℕ) (t : Term) → HasForm f o → IsOperand f s t → IsAlike o t → IsShaped o s
read-shaped form.Register (Register r) s t h read kept = subst (IsOperand form.Register s) kept read
read-shaped form.Source (Register r) s t h read kept = subst (IsOperand form.Source s) kept read
read-shaped form.Unsigned (Unsigned v) s t h read kept =
    (kept.0.magnitude, (subst (IsOperand form.Unsigned s) kept.1 read).1)
read-shaped form.Signed (Signed v) s t h read kept =
    (whole kept.0, integer-of s kept.0 (subst (IsOperand form.Signed s) kept.1 read))
read-shaped form.Source (Signed v) s t h read kept =
    (whole kept.0, integer-of s kept.0 (subst (IsOperand form.Source s) kept.1 read))
read-shaped form.Signed (Hexadecimal v) s t h read kept =
    (whole kept.0, integer-of s kept.0 (subst (IsOperand form.Signed s) kept.1 read))
read-shaped form.Memory (Memory a) s t h read kept =
    let m = subst (IsOperand form.Memory s) kept.1 read in (whole kept.0, (m.0, m.1, inside-of m.0 a.base kept.0 m.2))
read-shaped form.Name (Target z) s t h read kept = (subst (IsOperand form.Name s) kept.1 read).1
read-shaped f o s t h read kept = absurd h

-- ---- lists of operands

-- terms that are so to operands, one by one
abbrev pub AreKept : (Operand → Term → Type 0) → Operands → Terms → Type 0
AreKept K Nothing terms = terms ≡ one term.Absent
AreKept K (One a) terms = (t : Term) × (terms ≡ one t) × K a t
AreKept K (Two a b) terms = (t u : Term) × (terms ≡ two t u) × K a t × K b u
AreKept K (Three a b c) terms = (t u v : Term) × (terms ≡ three t u v) × K a t × K b u × K c v

-- each operand is read as such a term
abbrev pub Reads : (Operand → List ℕ → Type 0) → (Operand → Term → Type 0) → Type 0
Reads Is K = (f : OperandForm) (o : Operand) (s : List ℕ) → HasForm f o → Is o s → IsReadAs K f o s

pub listed-read : (Is : Operand → List ℕ → Type 0) (K : Operand → Term → Type 0) → Reads Is K → (fs : OperandForms) (os : Operands) (s : List ℕ)
    → HaveForms fs os → AreListed Is os s → (terms : Terms) × AreOperands fs s terms × AreKept K os terms
listed-read Is K reads forms.Nothing Nothing s h known = (one term.Absent, (known, refl), refl)
listed-read Is K reads (forms.One f) (One a) s h k =
    let r = reads f a k.1 h k.5 in (one r.0, (r.0, (k.0, k.1, k.2, k.3, k.4, r.1, k.6), refl), (r.0, refl, r.2))
listed-read Is K reads (forms.Two f g) (Two a b) s h known =
    let k = known.3 in
    let l = known.4 in
    let r = reads f a k.1 h.0 k.5 in
    let q = reads g b l.1 h.1 l.5 in (
      two r.0 q.0,
      (known.0, known.1, r.0, q.0, known.2, (k.0, k.1, k.2, k.3, k.4, r.1, k.6), (l.0, l.1, l.2, l.3, l.4, q.1, l.6), refl),
      (r.0, q.0, refl, r.2, q.2),
    )
listed-read Is K reads (forms.Three f g e) (Three a b c) s h known =
    let k = known.4 in
    let l = known.5 in
    let m = known.6 in
    let r = reads f a k.1 h.0 k.5 in
    let q = reads g b l.1 h.1 l.5 in
    let p = reads e c m.1 h.2 m.5 in (
      three r.0 q.0 p.0,
      (
        known.0,
        known.1,
        known.2,
        r.0,
        q.0,
        p.0,
        known.3,
        (k.0, k.1, k.2, k.3, k.4, r.1, k.6),
        (l.0, l.1, l.2, l.3, l.4, q.1, l.6),
        (m.0, m.1, m.2, m.3, m.4, p.1, m.6),
        refl,
      ),
      (r.0, q.0, p.0, refl, r.2, q.2, p.2),
    )
listed-read Is K reads fs os s h known = absurd h

-- and what is read as such terms is listed
abbrev pub Writes : (Operand → List ℕ → Type 0) → (Operand → Term → Type 0) → Type 0
Writes Is K = (f : OperandForm) (o : Operand) (s : List ℕ) (t : Term) → HasForm f o → IsOperand f s t → K o t → Is o s

pub read-listed : (Is : Operand → List ℕ → Type 0) (K : Operand → Term → Type 0) → Writes Is K → (fs : OperandForms) (os : Operands) (s : List ℕ)
    (terms : Terms) → HaveForms fs os → AreOperands fs s terms → AreKept K os terms → AreListed Is os s
read-listed Is K writes forms.Nothing Nothing s terms h known kept = known.0
read-listed Is K writes (forms.One f) (One a) s terms h known kept =
    let k = known.1 in
    let same : kept.0 ≡ known.0 = ap (λ t. t.first) (sym kept.1 ∙ known.2) in
    (k.0, k.1, k.2, k.3, k.4, writes f a k.1 known.0 h k.5 (subst (K a) same kept.2), k.6)
read-listed Is K writes (forms.Two f g) (Two a b) s terms h known kept =
    let k = known.5 in
    let l = known.6 in
    let same = sym kept.2 ∙ known.7 in
    let first : kept.0 ≡ known.2 = ap (λ t. t.first) same in
    let second : kept.1 ≡ known.3 = ap (λ t. t.second) same in (
      known.0,
      known.1,
      known.4,
      (k.0, k.1, k.2, k.3, k.4, writes f a k.1 known.2 h.0 k.5 (subst (K a) first kept.3), k.6),
      (l.0, l.1, l.2, l.3, l.4, writes g b l.1 known.3 h.1 l.5 (subst (K b) second kept.4), l.6),
    )
read-listed Is K writes (forms.Three f g e) (Three a b c) s terms h known kept =
    let k = known.7 in
    let l = known.8 in
    let m = known.9 in
    let same = sym kept.3 ∙ known.10 in
    let first : kept.0 ≡ known.3 = ap (λ t. t.first) same in
    let second : kept.1 ≡ known.4 = ap (λ t. t.second) same in
    let third : kept.2 ≡ known.5 = ap (λ t. t.third) same in (
      known.0,
      known.1,
      known.2,
      known.6,
      (k.0, k.1, k.2, k.3, k.4, writes f a k.1 known.3 h.0 k.5 (subst (K a) first kept.4), k.6),
      (l.0, l.1, l.2, l.3, l.4, writes g b l.1 known.4 h.1 l.5 (subst (K b) second kept.5), l.6),
      (m.0, m.1, m.2, m.3, m.4, writes e c m.1 known.5 h.2 m.5 (subst (K c) third kept.6), m.6),
    )
read-listed Is K writes fs os s terms h known kept = absurd h
