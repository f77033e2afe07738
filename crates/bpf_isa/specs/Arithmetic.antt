-- Arithmetic instructions (RFC 9669, section 4.1): one line a row, in the table's order.
use Rattle.std.specs.Prelude.{ℕ}
use Rattle.bpf_isa.specs.declared.instruction.Width.{Width}
use Rattle.bpf_isa.specs.declared.instruction.Width.TheVariants.{Bits32, Bits64}
use Rattle.bpf_isa.specs.declared.instruction.BinaryOp.{BinaryOp}
use Rattle.bpf_isa.specs.declared.instruction.BinaryOp.TheVariants.{Add, Sub, Mul, Div, SignedDiv, Or, And, LeftShift, RightShift, Mod, SignedMod, Xor, Mov, SignedRightShift}
use Rattle.bpf_isa.specs.declared.instruction.Extension.{Extension}
use Rattle.bpf_isa.specs.declared.instruction.Extension.TheVariants.{Byte64, Half64, Word64, Byte32, Half32}
use Rattle.bpf_isa.specs.declared.instruction.SourceKind.{SourceKind}
use Rattle.bpf_isa.specs.declared.instruction.SourceKind.TheVariants.{Register}
use Rattle.bpf_isa.specs.declared.row.Field.{Field}
use Rattle.bpf_isa.specs.declared.row.Field.TheVariants.{Unused, Code, Used}
use Rattle.bpf_isa.specs.declared.row.Row.{Row}
use Rattle.bpf_isa.specs.Rows.{alu, imm_of, src_of}

-- ADD to ARSH, without NEG and END: the opcodes K32 X32 K64 X64.
abbrev pub binary_opcode : BinaryOp → Width → SourceKind → ℕ
binary_opcode Add = alu 0x04 0x0c 0x07 0x0f
binary_opcode Sub = alu 0x14 0x1c 0x17 0x1f
binary_opcode Mul = alu 0x24 0x2c 0x27 0x2f
binary_opcode Div = alu 0x34 0x3c 0x37 0x3f
binary_opcode SignedDiv = alu 0x34 0x3c 0x37 0x3f
binary_opcode Or = alu 0x44 0x4c 0x47 0x4f
binary_opcode And = alu 0x54 0x5c 0x57 0x5f
binary_opcode LeftShift = alu 0x64 0x6c 0x67 0x6f
binary_opcode RightShift = alu 0x74 0x7c 0x77 0x7f
binary_opcode Mod = alu 0x94 0x9c 0x97 0x9f
binary_opcode SignedMod = alu 0x94 0x9c 0x97 0x9f
binary_opcode Xor = alu 0xa4 0xac 0xa7 0xaf
binary_opcode Mov = alu 0xb4 0xbc 0xb7 0xbf
binary_opcode SignedRightShift = alu 0xc4 0xcc 0xc7 0xcf

-- The offset tells signed division and modulo, and the extending moves.
abbrev pub binary_offset : BinaryOp → SourceKind → Field
binary_offset Div source = Code 0
binary_offset SignedDiv source = Code 1
binary_offset Mod source = Code 0
binary_offset SignedMod source = Code 1
binary_offset Mov Register = Code 0
binary_offset _ _ = Unused

-- Form K uses dst and imm, form X uses dst and src.
abbrev pub binary_row : BinaryOp → Width → SourceKind → Row
binary_row op width source = record { opcode = binary_opcode op width source; dst = Used; src = src_of source; offset = binary_offset op source; imm = imm_of source; next = Unused }

-- NEG uses dst alone.
abbrev pub negate_row : Width → Row
negate_row Bits32 = record { opcode = 0x84; dst = Used; src = Unused; offset = Unused; imm = Unused; next = Unused }
negate_row Bits64 = record { opcode = 0x87; dst = Used; src = Unused; offset = Unused; imm = Unused; next = Unused }

-- MOVSX: an opcode, and in offset how many low bits of src count.
abbrev pub extension_row : Extension → Row
extension_row Byte64 = record { opcode = 0xbf; dst = Used; src = Used; offset = Code 8; imm = Unused; next = Unused }
extension_row Half64 = record { opcode = 0xbf; dst = Used; src = Used; offset = Code 16; imm = Unused; next = Unused }
extension_row Word64 = record { opcode = 0xbf; dst = Used; src = Used; offset = Code 32; imm = Unused; next = Unused }
extension_row Byte32 = record { opcode = 0xbc; dst = Used; src = Used; offset = Code 8; imm = Unused; next = Unused }
extension_row Half32 = record { opcode = 0xbc; dst = Used; src = Used; offset = Code 16; imm = Unused; next = Unused }
