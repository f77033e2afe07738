-- The operands of instructions, and their canonical texts. bpfdb's own choice.
use Rattle.std.specs.Prelude.{ℕ, ℤ, pos, negsuc, ◌+◌, ◌+ℤ◌, List, [], ◌++◌, codes, decimal}
use Rattle.std.specs.Fmt.{signed_decimal}
use Rattle.bpf_isa.specs.declared.instruction.Insn.{Insn}
use Rattle.bpf_isa.specs.declared.instruction.Insn.TheVariants.{Binary, Negate, SignExtend, SwapBytes, JumpIf, Jump, JumpLong, CallHelper, CallLocal, Exit, Load, Store, Atomic, LoadWide}
use Rattle.bpf_isa.specs.declared.instruction.Source.{Source}
use Rattle.bpf_isa.specs.declared.instruction.Source.TheVariants as source
use Rattle.bpf_isa.specs.declared.instruction.WideValue.{WideValue}
use Rattle.bpf_isa.specs.declared.instruction.WideValue.TheVariants.{Number, Map, MapValue}
use Rattle.bpf_isa.specs.Registers.{register_text}
use Rattle.bpf_text.specs.declared.write.operand.Operand.{Operand}
use Rattle.bpf_text.specs.declared.write.operand.Operand.TheVariants.{Register, Signed, Unsigned, Hexadecimal, Memory, Target}
use Rattle.bpf_text.specs.declared.write.operand.Operands.{Operands}
use Rattle.bpf_text.specs.declared.write.operand.Operands.TheVariants.{Nothing, One, Two, Three}
use Rattle.bpf_isa.specs.Mnemonics.{mnemonic_of}
use Rattle.bpf_text.specs.Mnemonics.{name_of}
use Rattle.counted_io.specs.Writing.{hexadecimal}

-- A second operand.
abbrev pub operand_of : Source → Operand
operand_of (source.Immediate value) = Signed value
operand_of (source.Register reg) = Register reg

-- The operands of a wide load.
abbrev pub wide_operands : ℕ → WideValue → Operands
wide_operands dst (Number value) = Two (Register dst) (Hexadecimal value)
wide_operands dst (Map map) = Two (Register dst) (Unsigned map)
wide_operands dst (MapValue map offset) = Three (Register dst) (Unsigned map) (Unsigned offset)

-- The operands of an instruction in slot p. A target is counted from the next slot (RFC 9669, section 4.3).
abbrev pub operands_of : ℕ → Insn → Operands
operands_of p (Binary op width dst source) = Two (Register dst) (operand_of source)
operands_of p (Negate width dst) = One (Register dst)
operands_of p (SignExtend extension dst src) = Two (Register dst) (Register src)
operands_of p (SwapBytes order width dst) = One (Register dst)
operands_of p (JumpIf condition width dst source offset) =
    Three (Register dst) (operand_of source) (Target (pos (p + 1) +ℤ offset))
operands_of p (Jump offset) = One (Target (pos (p + 1) +ℤ offset))
operands_of p (JumpLong distance) = One (Target (pos (p + 1) +ℤ distance))
operands_of p (CallHelper helper) = One (Unsigned helper)
operands_of p (CallLocal distance) = One (Target (pos (p + 1) +ℤ distance))
operands_of p Exit = Nothing
operands_of p (Load size dst from) = Two (Register dst) (Memory from)
operands_of p (Store size to source) = Two (Memory to) (operand_of source)
operands_of p (Atomic op width to src) = Two (Memory to) (Register src)
operands_of p (LoadWide dst value) = wide_operands dst value

-- The name of the label of a slot.
abbrev pub label_text : ℕ → List ℕ
label_text p = codes "L" ++ decimal p

-- An offset in brackets, always with its sign.
abbrev pub offset_text : ℤ → List ℕ
offset_text (pos n) = codes "+" ++ decimal n
offset_text (negsuc n) = signed_decimal (negsuc n)

-- The canonical text of an operand. A target is the label of its slot.
abbrev pub operand_text : Operand → List ℕ
operand_text (Register r) = register_text r
operand_text (Signed value) = signed_decimal value
operand_text (Unsigned n) = decimal n
operand_text (Hexadecimal n) = hexadecimal n
operand_text (Memory address) = codes "[" ++ register_text address.base ++ offset_text address.offset ++ codes "]"
operand_text (Target slot) = codes "L" ++ signed_decimal slot

-- The canonical text of operands: a blank before the first, a comma and a blank before each further one.
abbrev pub operands_text : Operands → List ℕ
operands_text Nothing = []
operands_text (One a) = codes " " ++ operand_text a
operands_text (Two a b) = (codes " " ++ operand_text a) ++ (codes ", " ++ operand_text b)
operands_text (Three a b c) =
    (codes " " ++ operand_text a) ++ (codes ", " ++ operand_text b) ++ (codes ", " ++ operand_text c)

-- The canonical text of an instruction in slot p.
abbrev pub text_of_insn : ℕ → Insn → List ℕ
text_of_insn p insn = name_of (mnemonic_of insn) ++ operands_text (operands_of p insn)
