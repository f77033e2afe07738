-- Jump instructions, calls and exit (RFC 9669, section 4.3): one line a row, in the table's order.
use Rattle.std.specs.Prelude.{ℕ}
use Rattle.bpf_isa.specs.declared.instruction.Width.{Width}
use Rattle.bpf_isa.specs.declared.instruction.Condition.{Condition}
use Rattle.bpf_isa.specs.declared.instruction.Condition.TheVariants.{Equal, Greater, GreaterOrEqual, BitsSet, NotEqual, SignedGreater, SignedGreaterOrEqual, Less, LessOrEqual, SignedLess, SignedLessOrEqual}
use Rattle.bpf_isa.specs.declared.instruction.SourceKind.{SourceKind}
use Rattle.bpf_isa.specs.declared.row.Field.TheVariants.{Unused, Code, Used}
use Rattle.bpf_isa.specs.declared.row.Row.{Row}
use Rattle.bpf_isa.specs.Rows.{jmp, imm_of, src_of}

-- JA in class JMP: by offset.
abbrev pub jump_row : Row
jump_row = record { opcode = 0x05; dst = Unused; src = Unused; offset = Used; imm = Unused; next = Unused }

-- JA in class JMP32: by imm.
abbrev pub jump_long_row : Row
jump_long_row = record { opcode = 0x06; dst = Unused; src = Unused; offset = Unused; imm = Used; next = Unused }

-- JEQ to JSGE and JLT to JSLE: the opcodes K64 X64 K32 X32.
abbrev pub condition_opcode : Condition → Width → SourceKind → ℕ
condition_opcode Equal = jmp 0x15 0x1d 0x16 0x1e
condition_opcode Greater = jmp 0x25 0x2d 0x26 0x2e
condition_opcode GreaterOrEqual = jmp 0x35 0x3d 0x36 0x3e
condition_opcode BitsSet = jmp 0x45 0x4d 0x46 0x4e
condition_opcode NotEqual = jmp 0x55 0x5d 0x56 0x5e
condition_opcode SignedGreater = jmp 0x65 0x6d 0x66 0x6e
condition_opcode SignedGreaterOrEqual = jmp 0x75 0x7d 0x76 0x7e
condition_opcode Less = jmp 0xa5 0xad 0xa6 0xae
condition_opcode LessOrEqual = jmp 0xb5 0xbd 0xb6 0xbe
condition_opcode SignedLess = jmp 0xc5 0xcd 0xc6 0xce
condition_opcode SignedLessOrEqual = jmp 0xd5 0xdd 0xd6 0xde

-- Form K compares dst with imm, form X with src.
abbrev pub condition_row : Condition → Width → SourceKind → Row
condition_row condition width source = record { opcode = condition_opcode condition width source; dst = Used; src = src_of source; offset = Used; imm = imm_of source; next = Unused }

-- CALL: imm is a helper's number where src_reg is 0, and the distance of a local function where it is 1.
abbrev pub call_row : ℕ → Row
call_row kind = record { opcode = 0x85; dst = Unused; src = Code kind; offset = Unused; imm = Used; next = Unused }

-- EXIT uses nothing.
abbrev pub exit_row : Row
exit_row = record { opcode = 0x95; dst = Unused; src = Unused; offset = Unused; imm = Unused; next = Unused }
