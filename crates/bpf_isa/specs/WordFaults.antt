-- Why bytes are no word.
use Rattle.std.specs.Prelude.{◌≡◌, List, ℕ, Option, Some, None, ◌++◌, ◌==◌, if◌then◌else◌, length, slice_index}
use Rattle.bpf_isa.specs.declared.fault.WordFault.{WordFault}
use Rattle.bpf_isa.specs.declared.fault.WordFault.TheVariants.{UnknownInstruction, RegisterAboveTen, UnusedField, CutOff}
use Rattle.bpf_isa.specs.declared.instruction.Insn.{Insn}
use Rattle.bpf_isa.specs.Faults.{IsLeast, word_fault}
use Rattle.bpf_isa.specs.WideLoads.{wide_opcode}
use Rattle.bpf_isa.specs.Words.{row_of, fields_of, IsClean, HasRegisters, ReadsAs}

-- A fault of 8 bytes, or of 16 that begin with the wide opcode.
abbrev pub HasWordFault : List ℕ → WordFault → Type 0
-- They read as no instruction.
HasWordFault bytes UnknownInstruction = (insn : Insn) → ReadsAs (fields_of bytes) insn → ⊥
-- A register field is above 10, used or not.
HasWordFault bytes RegisterAboveTen = HasRegisters (fields_of bytes) → ⊥
-- They read as an instruction that doesn't use a field, which isn't zero.
HasWordFault bytes UnusedField = (insn : Insn) × ReadsAs (fields_of bytes) insn × (IsClean (row_of insn) (fields_of bytes) → ⊥)
-- The second slot is missing.
HasWordFault bytes CutOff = (slice_index bytes 0 ≡ wide_opcode) × (length bytes ≡ 8)

-- The fault with the least number.
unfoldable pub IsLeastWordFault : List ℕ → WordFault → Type 0
IsLeastWordFault bytes = IsLeast word_fault (HasWordFault bytes)

-- No fault applies.
pub record HasNoWordFault (bytes : List ℕ) : Type 0 where
  pub none : (fault : WordFault) → HasWordFault bytes fault → ⊥

-- The bytes that count: the second slot only after the wide opcode.
abbrev pub joined : List ℕ → Option (List ℕ) → List ℕ
joined first None = first
joined first (Some second) = if slice_index first 0 == wide_opcode then first ++ second else first
