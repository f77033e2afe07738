-- Byte swap instructions (RFC 9669, section 4.2).
use Rattle.std.specs.Prelude.{ℕ}
use Rattle.bpf_isa.specs.declared.instruction.ByteOrder.{ByteOrder}
use Rattle.bpf_isa.specs.declared.instruction.ByteOrder.TheVariants.{Little, Big, Swap}
use Rattle.bpf_isa.specs.declared.instruction.SwapWidth.{SwapWidth}
use Rattle.bpf_isa.specs.declared.instruction.SwapWidth.TheVariants.{Bits16, Bits32, Bits64}
use Rattle.bpf_isa.specs.declared.row.Field.TheVariants.{Unused, Code, Used}
use Rattle.bpf_isa.specs.declared.row.Row.{Row}

-- LE and BE in class ALU, and the unconditional swap in class ALU64.
abbrev pub swap_opcode : ByteOrder → ℕ
swap_opcode Little = 0xd4
swap_opcode Big = 0xdc
swap_opcode Swap = 0xd7

-- imm is the width in bits.
abbrev pub swap_bits : SwapWidth → ℕ
swap_bits Bits16 = 16
swap_bits Bits32 = 32
swap_bits Bits64 = 64

-- A swap uses dst alone.
abbrev pub swap_row : ByteOrder → SwapWidth → Row
swap_row order width = record { opcode = swap_opcode order; dst = Used; src = Unused; offset = Unused; imm = Code (swap_bits width); next = Unused }
