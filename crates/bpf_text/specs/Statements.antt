-- What stands after a label: an instruction, or what is wrong with it. bpfdb's own choice.
use Rattle.std.specs.Prelude.{ℕ, ℤ, pos, ◌≡◌, ◌^◌, ◌⊎◌, true, List, Ok, Err}
use Rattle.std.specs.List.{list_all}
use Rattle.bpf_isa.specs.declared.instruction.Insn.{Insn}
use Rattle.bpf_isa.specs.declared.instruction.Insn.TheVariants.{JumpIf, Jump}
use Rattle.bpf_isa.specs.declared.mnemonic.Mnemonic.{Mnemonic}
use Rattle.bpf_isa.specs.Mnemonics.{mnemonic_of}
use Rattle.bpf_isa.specs.Programs.{slots_of}
use Rattle.bpf_text.specs.declared.fault.LineFault.TheVariants.{UnknownMnemonic, WrongOperands, OutOfRange, TooFar, UnknownLabel}
use Rattle.bpf_text.specs.declared.write.operand.Operand.{Operand}
use Rattle.counted_io.specs.Lines.{is_blank}
use Rattle.bpf_text.specs.Labels.{Labels}
use Rattle.bpf_text.specs.LineGrammar.{LineReading, IsInstruction}
use Rattle.bpf_text.specs.Mnemonics.{name_of}
use Rattle.bpf_text.specs.Operands.{operands_of}
use Rattle.bpf_text.specs.Written.{IsWithin, IsWritten, IsShaped, AreListed}

-- An instruction in slot p: its name, and its operands as the disassembler has them, each of them as it should be.
abbrev pub Spells : (Operand → List ℕ → Type 0) → ℕ → List ℕ → Insn → Type 0
Spells Is p s insn = (operands : List ℕ) × IsInstruction s (name_of (mnemonic_of insn)) operands × AreListed Is (operands_of p insn) operands

-- A text that says an instruction in slot p, where these labels stand.
abbrev pub SaysInsn : Labels → ℕ → List ℕ → Insn → Type 0
SaysInsn labels p s insn = Spells (IsWritten labels) p s insn

-- How many slots a text takes in slot p: none where it is blank, and those of its instruction, wherever labels stand; or what is wrong with it.
abbrev pub Takes : ℕ → List ℕ → LineReading ℕ → Type 0
Takes p s (Ok n) = ((list_all is_blank s ≡ true) × (n ≡ 0))
    ⊎ ((labels : Labels) × (insn : Insn) × SaysInsn labels p s insn × (n ≡ slots_of insn))
Takes p s (Err UnknownMnemonic) = (word operands : List ℕ) × IsInstruction s word operands
    × ((mnemonic : Mnemonic) → name_of mnemonic ≡ word → ⊥)
Takes p s (Err WrongOperands) = (mnemonic : Mnemonic) × (operands : List ℕ) × IsInstruction s (name_of mnemonic) operands
    × ((insn : Insn) → Spells IsShaped p s insn → ⊥)
Takes p s (Err OutOfRange) = (shape : Insn) × Spells IsShaped p s shape × ((labels : Labels) (insn : Insn) → SaysInsn labels p s insn → ⊥)
Takes p s (Err _) = ⊥

-- The offset of ja and of a conditional jump, for which there are 16 bits.
abbrev pub short_offset : Insn → ℤ
short_offset (JumpIf condition width dst source offset) = offset
short_offset (Jump offset) = offset
short_offset insn = pos 0

-- The instruction that a text says in slot p where all labels are known; or what is wrong with its target.
abbrev pub Means : Labels → ℕ → List ℕ → LineReading Insn → Type 0
Means labels p s (Ok insn) = SaysInsn labels p s insn × IsWithin (2 ^ 15) (2 ^ 15) (short_offset insn)
Means labels p s (Err (TooFar distance)) = (insn : Insn) × SaysInsn labels p s insn × (short_offset insn ≡ distance)
    × (IsWithin (2 ^ 15) (2 ^ 15) distance → ⊥)
Means labels p s (Err UnknownLabel) = (others : Labels) × (insn : Insn) × SaysInsn others p s insn
    × ((insn : Insn) → SaysInsn labels p s insn → ⊥)
Means labels p s (Err _) = ⊥
