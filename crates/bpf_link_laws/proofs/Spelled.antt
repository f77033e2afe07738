-- The instructions of a setup, by the fields of their words.
use Rattle.std.proofs.Common.{◌≡◌, ◌+◌, ◌*◌, arith}
use Rattle.std.specs.Int.{w16, w32, cast_signed}
use Rattle.bpf_isa.specs.declared.fields.Fields.{Fields}
use Rattle.bpf_isa.specs.declared.instruction.BinaryOp.TheVariants.{Mov}
use Rattle.bpf_isa.specs.declared.instruction.Insn.{Insn}
use Rattle.bpf_isa.specs.declared.instruction.Insn.TheVariants.{Binary, JumpLong, LoadWide, Store}
use Rattle.bpf_isa.specs.declared.instruction.Size.TheVariants.{Double}
use Rattle.bpf_isa.specs.declared.instruction.Source.TheVariants.{Immediate, Register}
use Rattle.bpf_isa.specs.declared.instruction.WideValue.TheVariants.{Number, MapValue}
use Rattle.bpf_isa.specs.declared.instruction.Width.TheVariants.{Bits64}
use Rattle.bpf_isa.specs.Words.{ReadsAs}

pub is_place : (f : Fields) (i : Insn) → f.opcode ≡ 0x18 → f.src ≡ 6 → ReadsAs f i → i ≡ LoadWide f.dst (MapValue f.imm f.next)
is_place f i opcode src reads = grind arith

pub is_number : (f : Fields) (i : Insn) → f.opcode ≡ 0x18 → f.src ≡ 0 → ReadsAs f i → i ≡ LoadWide f.dst (Number (f.imm + 4294967296 * f.next))
is_number f i opcode src reads = grind arith

pub is_store : (f : Fields) (i : Insn) → f.opcode ≡ 0x7b → ReadsAs f i → i ≡ Store Double (record { base = f.dst; offset = cast_signed w16 f.offset }) (Register f.src)
is_store f i opcode reads = grind arith

pub is_move : (f : Fields) (i : Insn) → f.opcode ≡ 0xb7 → ReadsAs f i → i ≡ Binary Mov Bits64 f.dst (Immediate (cast_signed w32 f.imm))
is_move f i opcode reads = grind arith

pub is_jump : (f : Fields) (i : Insn) → f.opcode ≡ 0x06 → ReadsAs f i → i ≡ JumpLong (cast_signed w32 f.imm)
is_jump f i opcode reads = grind arith
