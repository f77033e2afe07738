-- Scaffolding: no public contract cites this. The parts of an opcode (RFC 9669, sections 3.1 and 4), the row of a mnemonic, and what the decoder and the encoder ask of their own functions.
use Rattle.std.specs.Prelude.{◌≡◌, ◌≢◌, ◌<◌, ◌≤◌, ℕ, List, Option, Some, All, length}
use Rattle.bpf_isa.specs.declared.fault.WordFault.{WordFault}
use Rattle.bpf_isa.specs.declared.fields.Fields.{Fields}
use Rattle.bpf_isa.specs.declared.instruction.Width.{Width}
use Rattle.bpf_isa.specs.declared.instruction.Width.TheVariants.{Bits32, Bits64}
use Rattle.bpf_isa.specs.declared.instruction.SourceKind.{SourceKind}
use Rattle.bpf_isa.specs.declared.instruction.SourceKind.TheVariants.{Immediate, Register}
use Rattle.bpf_isa.specs.declared.instruction.Insn.{Insn}
use Rattle.bpf_isa.specs.declared.instruction.Insn.TheVariants as insn
use Rattle.bpf_isa.specs.declared.mnemonic.Mnemonic.{Mnemonic}
use Rattle.bpf_isa.specs.declared.mnemonic.Mnemonic.TheVariants.{Binary, Negate, SignExtend, SwapBytes, JumpIf, Jump, JumpLong, CallHelper, CallLocal, Exit, Load, Store, Atomic, LoadWide}
use Rattle.bpf_isa.specs.declared.row.Field.{Field}
use Rattle.bpf_isa.specs.declared.row.Field.TheVariants.{Used}
use Rattle.bpf_isa.specs.declared.row.Row.{Row}
use Rattle.bpf_isa.specs.Arithmetic.{binary_row, negate_row, extension_row}
use Rattle.bpf_isa.specs.Swaps.{swap_row}
use Rattle.bpf_isa.specs.Jumps.{jump_row, jump_long_row, condition_row, call_row, exit_row}
use Rattle.bpf_isa.specs.Memory.{load_row, store_row, atomic_row}
use Rattle.bpf_isa.specs.WideLoads.{wide_opcode, wide_row}
use Rattle.bpf_isa.specs.Faults.{word_fault}
use Rattle.bpf_isa.specs.WordFaults.{HasNoWordFault, IsLeastWordFault}
use Rattle.bpf_isa.specs.Mnemonics.{kind_of}
use Rattle.bpf_isa.specs.Words.{row_of, fields_of, HasCodes, IsClean, HasRegisters, IsWord, ReadsAs}

-- The source bit: K is 0, X is 1, in the place of 8.
abbrev pub source_bit_of : SourceKind → ℕ
source_bit_of Immediate = 0
source_bit_of Register = 8

-- The classes ALU and ALU64.
abbrev pub class_of : Width → ℕ
class_of Bits32 = 4
class_of Bits64 = 7

-- The classes JMP32 and JMP.
abbrev pub jump_class_of : Width → ℕ
jump_class_of Bits32 = 6
jump_class_of Bits64 = 5

-- The classes ST and STX.
abbrev pub store_class_of : SourceKind → ℕ
store_class_of Immediate = 2
store_class_of Register = 3

-- The row of a mnemonic in form K or X. Those without a choice have one row.
abbrev pub row : Mnemonic → SourceKind → Row
row (Binary op width) source = binary_row op width source
row (Negate width) source = negate_row width
row (SignExtend extension) source = extension_row extension
row (SwapBytes order width) source = swap_row order width
row (JumpIf condition width) source = condition_row condition width source
row Jump source = jump_row
row JumpLong source = jump_long_row
row CallHelper source = call_row 0
row CallLocal source = call_row 1
row Exit source = exit_row
row (Load size) source = load_row size
row (Store size kind) source = store_row size kind
row (Atomic op width) source = atomic_row op width
row (LoadWide kind) source = wide_row kind

-- The form of an instruction where its mnemonic leaves it open, else K.
abbrev pub insn_kind : Insn → SourceKind
insn_kind (insn.Binary op width dst source) = kind_of source
insn_kind (insn.JumpIf condition width dst source offset) = kind_of source
insn_kind _ = Immediate

-- Of all mnemonics, in either form, only the one found has its row's codes in the fields.
abbrev pub IsOnly : Fields → Option Mnemonic → Type 0
IsOnly fields found = (mnemonic : Mnemonic) (kind : SourceKind) → HasCodes (row mnemonic kind) fields → found ≡ Some mnemonic

-- A field of a word holds the part of the instruction where the row uses it.
abbrev pub IsKept : Field → ℕ → ℕ → Type 0
IsKept Used part n = n ≡ part
IsKept _ part n = Unit {0}

-- The fields that a row uses hold the parts.
pub record IsLaid (row : Row) (parts fields : Fields) : Type 0 where
  pub dst : IsKept row.dst parts.dst fields.dst
  pub src : IsKept row.src parts.src fields.src
  pub offset : IsKept row.offset parts.offset fields.offset
  pub imm : IsKept row.imm parts.imm fields.imm
  pub next : IsKept row.next parts.next fields.next

-- What the bytes read as, without fault but that a second slot may be missing.
pub record IsRead (bytes : List ℕ) (insn : Insn) : Type 0 where
  pub small : All (λ byte. byte < 256) bytes
  pub reads : ReadsAs (fields_of bytes) insn
  pub clean : IsClean (row_of insn) (fields_of bytes)
  pub registers : HasRegisters (fields_of bytes)
  pub only : (other : Insn) → ReadsAs (fields_of bytes) other → other ≡ insn

-- The least fault of bytes that read as no instruction, or as one that leaves something over.
pub record IsReadFault (bytes : List ℕ) (fault : WordFault) : Type 0 where
  pub least : IsLeastWordFault bytes fault
  pub early : (word_fault fault).0 ≤ 6

-- The bytes spell the instruction, and no fault applies.
pub record IsClearWord (bytes : List ℕ) (insn : Insn) : Type 0 where
  pub word : IsWord insn bytes
  pub clear : HasNoWordFault bytes

-- The bytes with these fields: as many as their opcode asks for.
pub record AreBytesOf (fields : Fields) (bytes : List ℕ) : Type 0 where
  pub value : fields_of bytes ≡ fields
  pub within : All (λ byte. byte < 256) bytes
  pub wide : fields.opcode ≡ wide_opcode → length bytes ≡ 16
  pub short : fields.opcode ≢ wide_opcode → length bytes ≡ 8
