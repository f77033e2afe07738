-- What a checked program's words say of its instructions.
use Rattle.std.proofs.Common.{ℕ, ℤ, ◌≡◌, ◌<◌, ◌≤◌, ◌+◌, ◌^◌, List, length, arith, subst, slice_index, w16, w32, SFits, All, Option, Some, None, inl, inr}
use Rattle.std.proofs.lemmas.Bool.Decides.{leb_tells}
use Rattle.std.proofs.lemmas.List.{get_or_past}
use Rattle.std.specs.Int.{cast_signed}
use Rattle.std.proofs.Math.Facts.{sfits_to_z}
use Rattle.bpf_isa.specs.declared.instruction.Insn.{Insn}
use Rattle.bpf_isa.specs.declared.instruction.Insn.TheVariants as insn
use Rattle.bpf_isa.specs.declared.instruction.Source.{Source}
use Rattle.bpf_isa.specs.declared.instruction.Source.TheVariants as source_is
use Rattle.bpf_isa.specs.declared.instruction.Address.{Address}
use Rattle.bpf_isa.specs.declared.instruction.WideValue.{WideValue}
use Rattle.bpf_isa.specs.declared.instruction.WideValue.TheVariants as value
use Rattle.bpf_isa.specs.Words.{IsWord, fields_of, u16_at as half_at, u32_at as word_at, HasSource, HasAddress, HasWideValue}
use Rattle.bpf_isa.specs.Programs.{target_of}
use Rattle.bpf_text.specs.Labels.{Labels}
use Rattle.bpf_text.specs.Operands.{operand_of, operands_of, wide_operands}
use Rattle.bpf_text.specs.Statements.{short_offset}
use Rattle.bpf_text.specs.Written.{IsWithin}
use Rattle.bpf_text.proofs.CanonicalTexts.{Reaches, OperandFits, OperandsFit, within-offset}

-- a byte
small-at : (s : List ℕ) (k : ℕ) → All (λ b. b < 256) s → slice_index s k < 256
small-at s k p = elim (leb_tells (length s) k) [
  | inl t ↦ let none : slice_index s k ≡ 0 = get_or_past s k 0 t.1 in omega arith
  | inr t ↦ p k 0 t.1
]

half-small : (s : List ℕ) (k : ℕ) → All (λ b. b < 256) s → half_at s k < 2 ^ 16
half-small s k p = omega (arith, small-at s k p, small-at s (k + 1) p)

word-small : (s : List ℕ) (k : ℕ) → All (λ b. b < 256) s → word_at s k < 2 ^ 32
word-small s k p = omega (arith, half-small s k p, half-small s (k + 2) p)

-- a field read as a signed number
offset-fits : (s : List ℕ) (o : ℤ) → All (λ b. b < 256) s → cast_signed w16 (half_at s 2) ≡ o → SFits w16 o
offset-fits s o p e = let P : ℤ → Type 0 = λ z. SFits w16 z in subst P e (sfits_to_z (record { fits = half-small s 2 p }))

value-fits : (s : List ℕ) (v : ℤ) → All (λ b. b < 256) s → cast_signed w32 (word_at s 4) ≡ v → SFits w32 v
value-fits s v p e = let P : ℤ → Type 0 = λ z. SFits w32 z in subst P e (sfits_to_z (record { fits = word-small s 4 p }))

-- a register, an offset and a number of a word
dst-fits : (i : Insn) (word : List ℕ) (r : ℕ) → IsWord i word → (fields_of word).dst ≡ r → r ≤ 10
dst-fits i word r known e = let h = known.registers.dst in omega (arith, h, e)

src-fits : (i : Insn) (word : List ℕ) (r : ℕ) → IsWord i word → (fields_of word).src ≡ r → r ≤ 10
src-fits i word r known e = let h = known.registers.src in omega (arith, h, e)

source-part : (labels : Labels) (i : Insn) (word : List ℕ) (s : Source) → IsWord i word → HasSource s (fields_of word) → OperandFits labels (operand_of s)
source-part labels i word (source_is.Immediate value) known part = value-fits word value known.small part
source-part labels i word (source_is.Register src) known part = src-fits i word src known part

address-part : (a : Address) (register : ℕ) (word : List ℕ) → register ≤ 10 → All (λ b. b < 256) word → HasAddress a register (fields_of word)
    → (a.base ≤ 10) × SFits w16 a.offset
address-part a register word low small part = (let e = part.0 in omega (arith, low, e), offset-fits word a.offset small part.1)

wide-part : (labels : Labels) (dst : ℕ) (v : WideValue) (word : List ℕ) → dst ≤ 10 → All (λ b. b < 256) word → HasWideValue v (fields_of word)
    → OperandsFit labels (wide_operands dst v)
wide-part labels dst (value.Number v) word low small e = (low, omega (arith, word-small word 4 small, word-small word 12 small, e))
wide-part labels dst (value.Map m) word low small e = (low, omega (arith, word-small word 4 small, e))
wide-part labels dst (value.MapValue m o) word low small e =
    let map = e.0 in let offset = e.1 in
    (low, omega (arith, word-small word 4 small, map), omega (arith, word-small word 12 small, offset))

-- a target, if there is one, is a slot that has its label
abbrev pub TargetReaches : Labels → Option ℤ → Type 0
TargetReaches labels None = Unit {0}
TargetReaches labels (Some z) = Reaches labels z

-- the operands of an instruction that has a word are in their ranges
pub word-fits : (labels : Labels) (p : ℕ) (i : Insn) (word : List ℕ) → IsWord i word → TargetReaches labels (target_of p i)
    → OperandsFit labels (operands_of p i)
word-fits labels p (insn.Binary op width dst s) word known reach =
    let i = insn.Binary op width dst s in (dst-fits i word dst known known.reads.parts.0, source-part labels i word s known known.reads.parts.1)
word-fits labels p (insn.Negate width dst) word known reach = dst-fits (insn.Negate width dst) word dst known known.reads.parts
word-fits labels p (insn.SignExtend e dst src) word known reach =
    let i = insn.SignExtend e dst src in (dst-fits i word dst known known.reads.parts.0, src-fits i word src known known.reads.parts.1)
word-fits labels p (insn.SwapBytes order width dst) word known reach = dst-fits (insn.SwapBytes order width dst) word dst known known.reads.parts
word-fits labels p (insn.JumpIf c width dst s o) word known reach =
    let i = insn.JumpIf c width dst s o in
    (dst-fits i word dst known known.reads.parts.0, source-part labels i word s known known.reads.parts.1, reach)
word-fits labels p (insn.Jump o) word known reach = reach
word-fits labels p (insn.JumpLong d) word known reach = reach
word-fits labels p (insn.CallHelper h) word known reach = let small = word-small word 4 known.small in let e = known.reads.parts in omega (arith, small, e)
word-fits labels p (insn.CallLocal d) word known reach = reach
word-fits labels p insn.Exit word known reach = tt
word-fits labels p (insn.Load size dst from) word known reach =
    let low = known.registers.src in
    let i = insn.Load size dst from in
    (dst-fits i word dst known known.reads.parts.0, address-part from (fields_of word).src word low known.small known.reads.parts.1)
word-fits labels p (insn.Store size to s) word known reach =
    let low = known.registers.dst in
    let i = insn.Store size to s in
    (address-part to (fields_of word).dst word low known.small known.reads.parts.0, source-part labels i word s known known.reads.parts.1)
word-fits labels p (insn.Atomic op width to src) word known reach =
    let low = known.registers.dst in
    let i = insn.Atomic op width to src in
    (address-part to (fields_of word).dst word low known.small known.reads.parts.0, src-fits i word src known known.reads.parts.1)
word-fits labels p (insn.LoadWide dst v) word known reach =
    wide-part labels dst v word (dst-fits (insn.LoadWide dst v) word dst known known.reads.parts.0) known.small known.reads.parts.1

-- and its offset, where it has one for a target
none-short : 0 < 2 ^ 15
none-short = omega arith

pub word-short : (i : Insn) (word : List ℕ) → IsWord i word → IsWithin (2 ^ 15) (2 ^ 15) (short_offset i)
word-short (insn.JumpIf c width dst s o) word known = within-offset o (offset-fits word o known.small known.reads.parts.2)
word-short (insn.Jump o) word known = within-offset o (offset-fits word o known.small known.reads.parts)
word-short i word known = none-short
