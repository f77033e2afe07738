-- Scaffolding: how the operands of each mnemonic are read, and what instruction they make.
use Rattle.std.specs.Prelude.{ℕ, ℤ, pos, List, Option, Some, None, option_map}
use Rattle.bpf_isa.specs.declared.instruction.Address.{Address}
use Rattle.bpf_isa.specs.declared.instruction.Insn.{Insn}
use Rattle.bpf_isa.specs.declared.instruction.Insn.TheVariants as insn
use Rattle.bpf_isa.specs.declared.instruction.Source.{Source}
use Rattle.bpf_isa.specs.declared.instruction.Source.TheVariants as source
use Rattle.bpf_isa.specs.declared.instruction.SourceKind.TheVariants as kind
use Rattle.bpf_isa.specs.declared.instruction.WideValue.TheVariants as value
use Rattle.bpf_isa.specs.declared.mnemonic.WideKind.TheVariants as wide_kind
use Rattle.bpf_isa.specs.declared.mnemonic.Mnemonic.{Mnemonic}
use Rattle.bpf_isa.specs.declared.mnemonic.Mnemonic.TheVariants.{Binary, Negate, SignExtend, SwapBytes, JumpIf, Jump, JumpLong, CallHelper, CallLocal, Exit, Load, Store, Atomic, LoadWide}
use Rattle.bpf_text.specs.declared.read.term.OperandForm.TheVariants as form
use Rattle.bpf_text.specs.declared.read.term.OperandForms.{OperandForms}
use Rattle.bpf_text.specs.declared.read.term.OperandForms.TheVariants.{Nothing, One, Two, Three}
use Rattle.bpf_text.specs.declared.read.term.Term.{Term}
use Rattle.bpf_text.specs.declared.read.term.Term.TheVariants.{Register, Number as Num, Memory, Name}
use Rattle.bpf_text.specs.declared.read.term.Terms.{Terms}
use Rattle.bpf_text.specs.Scaffolding.Tokens.{unsigned, immediate, wide, offset}

-- How the operands of each mnemonic are written.
abbrev pub forms_of : Mnemonic → OperandForms
forms_of (Binary op width) = Two form.Register form.Source
forms_of (Negate width) = One form.Register
forms_of (SignExtend extension) = Two form.Register form.Register
forms_of (SwapBytes order width) = One form.Register
forms_of (JumpIf condition width) = Three form.Register form.Source form.Name
forms_of Jump = One form.Name
forms_of JumpLong = One form.Name
forms_of CallHelper = One form.Unsigned
forms_of CallLocal = One form.Name
forms_of Exit = Nothing
forms_of (Load size) = Two form.Register form.Memory
forms_of (Store size kind.Immediate) = Two form.Memory form.Signed
forms_of (Store size kind.Register) = Two form.Memory form.Register
forms_of (Atomic op width) = Two form.Memory form.Register
forms_of (LoadWide wide_kind.Number) = Two form.Register form.Signed
forms_of (LoadWide wide_kind.Map) = Two form.Register form.Unsigned
forms_of (LoadWide wide_kind.MapValue) = Three form.Register form.Unsigned form.Unsigned

-- What an operand is to an instruction, if it is of the kind, and its number in its range.
abbrev pub register_in : Term → Option ℕ
register_in (Register reg) = Some reg
register_in _ = None

abbrev pub unsigned_in : Term → Option ℕ
unsigned_in (Num number) = unsigned number
unsigned_in _ = None

abbrev pub immediate_in : Term → Option ℤ
immediate_in (Num number) = immediate number
immediate_in _ = None

abbrev pub wide_in : Term → Option ℕ
wide_in (Num number) = wide number
wide_in _ = None

abbrev pub source_in : Term → Option Source
source_in (Register reg) = Some (source.Register reg)
source_in (Num number) = option_map source.Immediate (immediate number)
source_in _ = None

abbrev pub memory_in : Term → Option Address
memory_in (Memory base number) = option_map (λ o. record { base = base; offset = o }) (offset number)
memory_in _ = None

abbrev pub name_in : Term → Option (List ℕ)
name_in (Name name) = Some name
name_in _ = None

-- The name of the target: the last operand.
abbrev pub name_or : Option (List ℕ) → Term → Option (List ℕ)
name_or (Some name) term = Some name
name_or None term = name_in term

abbrev pub target_in : Terms → Option (List ℕ)
target_in terms = name_or (name_in terms.third) terms.first

-- What is made of operands that are in their ranges.
abbrev pub of_one : {A : Type 0} → Option A → (A → Insn) → Option Insn
of_one (Some a) f = Some (f a)
of_one None f = None

abbrev pub of_two : {A B : Type 0} → Option A → Option B → (A → B → Insn) → Option Insn
of_two (Some a) b f = of_one b (f a)
of_two None b f = None

abbrev pub of_three : {A B C : Type 0} → Option A → Option B → Option C → (A → B → C → Insn) → Option Insn
of_three (Some a) b c f = of_two b c (f a)
of_three None b c f = None

-- The instruction of a mnemonic and operands of its forms, if their numbers are in their ranges. The distance of a target is 0
-- here: it comes from the label.
abbrev pub insn_with : Mnemonic → Terms → Option Insn
insn_with (Binary op width) t = of_two (register_in t.first) (source_in t.second) (insn.Binary op width)
insn_with (Negate width) t = of_one (register_in t.first) (insn.Negate width)
insn_with (SignExtend extension) t = of_two (register_in t.first) (register_in t.second) (insn.SignExtend extension)
insn_with (SwapBytes order width) t = of_one (register_in t.first) (insn.SwapBytes order width)
insn_with (JumpIf condition width) t =
    of_two (register_in t.first) (source_in t.second) (λ dst source. insn.JumpIf condition width dst source (pos 0))
insn_with Jump t = Some (insn.Jump (pos 0))
insn_with JumpLong t = Some (insn.JumpLong (pos 0))
insn_with CallHelper t = of_one (unsigned_in t.first) insn.CallHelper
insn_with CallLocal t = Some (insn.CallLocal (pos 0))
insn_with Exit t = Some insn.Exit
insn_with (Load size) t = of_two (register_in t.first) (memory_in t.second) (insn.Load size)
insn_with (Store size kind.Immediate) t =
    of_two (memory_in t.first) (immediate_in t.second) (λ to v. insn.Store size to (source.Immediate v))
insn_with (Store size kind.Register) t =
    of_two (memory_in t.first) (register_in t.second) (λ to r. insn.Store size to (source.Register r))
insn_with (Atomic op width) t = of_two (memory_in t.first) (register_in t.second) (insn.Atomic op width)
insn_with (LoadWide wide_kind.Number) t = of_two (register_in t.first) (wide_in t.second) (λ dst v. insn.LoadWide dst (value.Number v))
insn_with (LoadWide wide_kind.Map) t = of_two (register_in t.first) (unsigned_in t.second) (λ dst m. insn.LoadWide dst (value.Map m))
insn_with (LoadWide wide_kind.MapValue) t =
    of_three (register_in t.first) (unsigned_in t.second) (unsigned_in t.third) (λ dst m o. insn.LoadWide dst (value.MapValue m o))
