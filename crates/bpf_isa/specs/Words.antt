-- Words: the 8 or 16 bytes that spell an instruction (RFC 9669, section 3).
use Rattle.std.specs.Prelude.{◌≡◌, ◌<◌, ◌≤◌, ℕ, ℤ, ◌+◌, ◌*◌, ◌/◌, ◌%◌, List, [], ◌++◌, All, length, slice_index}
use Rattle.std.specs.Int.{w16, w32, cast_signed}
use Rattle.bpf_isa.specs.declared.instruction.Insn.{Insn}
use Rattle.bpf_isa.specs.declared.instruction.Source.{Source}
use Rattle.bpf_isa.specs.declared.instruction.Insn.TheVariants.{Binary, Negate, SignExtend, SwapBytes, JumpIf, Jump, JumpLong, CallHelper, CallLocal, Exit, Load, Store, Atomic, LoadWide}
use Rattle.bpf_isa.specs.declared.instruction.Address.{Address}
use Rattle.bpf_isa.specs.declared.instruction.WideValue.{WideValue}
use Rattle.bpf_isa.specs.declared.instruction.WideValue.TheVariants.{Number, Map, MapValue}
use Rattle.bpf_isa.specs.declared.instruction.Source.TheVariants.{Immediate, Register}
use Rattle.bpf_isa.specs.declared.fields.Fields.{Fields}
use Rattle.bpf_isa.specs.declared.row.Row.{Row}
use Rattle.bpf_isa.specs.Rows.{HasCode, IsClear}
use Rattle.bpf_isa.specs.Arithmetic.{binary_row, negate_row, extension_row}
use Rattle.bpf_isa.specs.Swaps.{swap_row}
use Rattle.bpf_isa.specs.Jumps.{jump_row, jump_long_row, condition_row, call_row, exit_row}
use Rattle.bpf_isa.specs.Memory.{load_row, store_row, atomic_row}
use Rattle.bpf_isa.specs.WideLoads.{wide_row}
use Rattle.bpf_isa.specs.Mnemonics.{kind_of, wide_kind_of}
use Rattle.bpf_isa.specs.Insns.{slots_of}

-- The row of an instruction. Where a line of the tables has the forms K and X, its second operand chooses.
abbrev pub row_of : Insn → Row
row_of (Binary op width dst source) = binary_row op width (kind_of source)
row_of (Negate width dst) = negate_row width
row_of (SignExtend extension dst src) = extension_row extension
row_of (SwapBytes order width dst) = swap_row order width
row_of (JumpIf condition width dst source offset) = condition_row condition width (kind_of source)
row_of (Jump offset) = jump_row
row_of (JumpLong distance) = jump_long_row
row_of (CallHelper helper) = call_row 0
row_of (CallLocal distance) = call_row 1
row_of Exit = exit_row
row_of (Load size dst from) = load_row size
row_of (Store size to source) = store_row size (kind_of source)
row_of (Atomic op width to src) = atomic_row op width
row_of (LoadWide dst value) = wide_row (wide_kind_of value)

-- Two bytes as a number, the low one first.
abbrev pub u16_at : List ℕ → ℕ → ℕ
u16_at bytes i = slice_index bytes i + 256 * slice_index bytes (i + 1)

-- Four bytes as a number, the low one first.
abbrev pub u32_at : List ℕ → ℕ → ℕ
u32_at bytes i = u16_at bytes i + 65536 * u16_at bytes (i + 2)

-- The fields of a slot, and of the one after it where there are 16 bytes. Absent bytes read as 0.
abbrev pub fields_of : List ℕ → Fields
fields_of bytes = record {
  opcode = slice_index bytes 0;
  dst = slice_index bytes 1 % 16;
  src = slice_index bytes 1 / 16;
  offset = u16_at bytes 2;
  imm = u32_at bytes 4;
  reserved = u32_at bytes 8;
  next = u32_at bytes 12;
}

-- The opcode and the numbers that a row fixes.
pub record HasCodes (row : Row) (fields : Fields) : Type 0 where
  pub opcode : fields.opcode ≡ row.opcode
  pub src : HasCode row.src fields.src
  pub offset : HasCode row.offset fields.offset
  pub imm : HasCode row.imm fields.imm

-- What a row doesn't use is zero, and so are the four reserved bytes.
pub record IsClean (row : Row) (fields : Fields) : Type 0 where
  pub dst : IsClear row.dst fields.dst
  pub src : IsClear row.src fields.src
  pub offset : IsClear row.offset fields.offset
  pub imm : IsClear row.imm fields.imm
  pub next : IsClear row.next fields.next
  pub reserved : fields.reserved ≡ 0

-- Registers are r0 to r10.
pub record HasRegisters (fields : Fields) : Type 0 where
  pub dst : fields.dst ≤ 10
  pub src : fields.src ≤ 10

-- A signed number of 16 bits in offset.
abbrev pub HasOffset : ℤ → Fields → Type 0
HasOffset offset fields = cast_signed w16 fields.offset ≡ offset

-- A signed number of 32 bits in imm.
abbrev pub HasImmediate : ℤ → Fields → Type 0
HasImmediate value fields = cast_signed w32 fields.imm ≡ value

-- The second operand: a number in imm, or a register in src.
abbrev pub HasSource : Source → Fields → Type 0
HasSource (Immediate value) fields = HasImmediate value fields
HasSource (Register src) fields = fields.src ≡ src

-- An address: a register in src (of a load) or dst (of a store), and a number in offset.
abbrev pub HasAddress : Address → ℕ → Fields → Type 0
HasAddress address register fields = (register ≡ address.base) × HasOffset address.offset fields

-- A wide load's value: in imm its low half or the map, in next its high half or the byte's offset.
abbrev pub HasWideValue : WideValue → Fields → Type 0
HasWideValue (Number value) fields = fields.imm + 4294967296 * fields.next ≡ value
HasWideValue (Map map) fields = fields.imm ≡ map
HasWideValue (MapValue map offset) fields = (fields.imm ≡ map) × (fields.next ≡ offset)

-- The parts of an instruction, as they are read from the fields.
abbrev pub HasParts : Insn → Fields → Type 0
HasParts (Binary op width dst source) fields = (fields.dst ≡ dst) × HasSource source fields
HasParts (Negate width dst) fields = fields.dst ≡ dst
HasParts (SignExtend extension dst src) fields = (fields.dst ≡ dst) × (fields.src ≡ src)
HasParts (SwapBytes order width dst) fields = fields.dst ≡ dst
HasParts (JumpIf condition width dst source offset) fields = (fields.dst ≡ dst) × HasSource source fields × HasOffset offset fields
HasParts (Jump offset) fields = HasOffset offset fields
HasParts (JumpLong distance) fields = HasImmediate distance fields
HasParts (CallHelper helper) fields = fields.imm ≡ helper
HasParts (CallLocal distance) fields = HasImmediate distance fields
HasParts Exit fields = Unit {0}
HasParts (Load size dst from) fields = (fields.dst ≡ dst) × HasAddress from fields.src fields
HasParts (Store size to source) fields = HasAddress to fields.dst fields × HasSource source fields
HasParts (Atomic op width to src) fields = HasAddress to fields.dst fields × (fields.src ≡ src)
HasParts (LoadWide dst value) fields = (fields.dst ≡ dst) × HasWideValue value fields

-- The fields read as the instruction: its row's codes and its own parts stand in them. What it doesn't use may be anything.
pub record ReadsAs (fields : Fields) (insn : Insn) : Type 0 where
  pub codes : HasCodes (row_of insn) fields
  pub parts : HasParts insn fields

-- The bytes spell the instruction: they read as it, and leave nothing over.
pub record IsWord (insn : Insn) (bytes : List ℕ) : Type 0 where
  pub small : All (λ byte. byte < 256) bytes
  pub size : length bytes ≡ 8 * slots_of insn
  pub reads : ReadsAs (fields_of bytes) insn
  pub clean : IsClean (row_of insn) (fields_of bytes)
  pub registers : HasRegisters (fields_of bytes)

-- An instruction has at most one word.
abbrev pub HaveOneWord : Type 0
HaveOneWord = (insn : Insn) (a b : List ℕ) → IsWord insn a → IsWord insn b → a ≡ b

-- No word begins another.
abbrev pub NoneBeginsAnother : Type 0
NoneBeginsAnother = (i j : Insn) (a rest : List ℕ) → IsWord i a → IsWord j (a ++ rest) → rest ≡ []
