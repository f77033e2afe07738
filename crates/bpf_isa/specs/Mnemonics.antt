-- Mnemonics: an instruction without its operands, and the kind of the second operand (RFC 9669, sections 4 and 5).
use Rattle.bpf_isa.specs.declared.instruction.Insn.{Insn}
use Rattle.bpf_isa.specs.declared.instruction.Insn.TheVariants as insn
use Rattle.bpf_isa.specs.declared.instruction.Source.{Source}
use Rattle.bpf_isa.specs.declared.instruction.Source.TheVariants as source
use Rattle.bpf_isa.specs.declared.instruction.SourceKind.{SourceKind}
use Rattle.bpf_isa.specs.declared.instruction.SourceKind.TheVariants.{Immediate, Register}
use Rattle.bpf_isa.specs.declared.instruction.WideValue.{WideValue}
use Rattle.bpf_isa.specs.declared.instruction.WideValue.TheVariants as value
use Rattle.bpf_isa.specs.declared.mnemonic.WideKind.{WideKind}
use Rattle.bpf_isa.specs.declared.mnemonic.WideKind.TheVariants.{Number, Map, MapValue}
use Rattle.bpf_isa.specs.declared.mnemonic.Mnemonic.{Mnemonic}
use Rattle.bpf_isa.specs.declared.mnemonic.Mnemonic.TheVariants.{Binary, Negate, SignExtend, SwapBytes, JumpIf, Jump, JumpLong, CallHelper, CallLocal, Exit, Load, Store, Atomic, LoadWide}

-- K for an immediate, X for a register.
abbrev pub kind_of : Source → SourceKind
kind_of (source.Immediate value) = Immediate
kind_of (source.Register src) = Register

-- A wide load's value without its numbers.
abbrev pub wide_kind_of : WideValue → WideKind
wide_kind_of (value.Number number) = Number
wide_kind_of (value.Map map) = Map
wide_kind_of (value.MapValue map offset) = MapValue

-- The mnemonic of an instruction.
abbrev pub mnemonic_of : Insn → Mnemonic
mnemonic_of (insn.Binary op width dst source) = Binary op width
mnemonic_of (insn.Negate width dst) = Negate width
mnemonic_of (insn.SignExtend extension dst src) = SignExtend extension
mnemonic_of (insn.SwapBytes order width dst) = SwapBytes order width
mnemonic_of (insn.JumpIf condition width dst source offset) = JumpIf condition width
mnemonic_of (insn.Jump offset) = Jump
mnemonic_of (insn.JumpLong distance) = JumpLong
mnemonic_of (insn.CallHelper helper) = CallHelper
mnemonic_of (insn.CallLocal distance) = CallLocal
mnemonic_of insn.Exit = Exit
mnemonic_of (insn.Load size dst from) = Load size
mnemonic_of (insn.Store size to source) = Store size (kind_of source)
mnemonic_of (insn.Atomic op width to src) = Atomic op width
mnemonic_of (insn.LoadWide dst value) = LoadWide (wide_kind_of value)
