-- Loads, stores and atomic operations (RFC 9669, sections 5.1 to 5.3).
use Rattle.std.specs.Prelude.{ℕ}
use Rattle.bpf_isa.specs.declared.instruction.Width.{Width}
use Rattle.bpf_isa.specs.declared.instruction.Width.TheVariants.{Bits32, Bits64}
use Rattle.bpf_isa.specs.declared.instruction.Size.{Size}
use Rattle.bpf_isa.specs.declared.instruction.Size.TheVariants.{Word, Half, Byte, Double}
use Rattle.bpf_isa.specs.declared.instruction.SignedSize.TheVariants.{Word as SignedWord, Half as SignedHalf, Byte as SignedByte}
use Rattle.bpf_isa.specs.declared.instruction.LoadSize.{LoadSize}
use Rattle.bpf_isa.specs.declared.instruction.LoadSize.TheVariants.{Plain, Signed}
use Rattle.bpf_isa.specs.declared.instruction.SourceKind.{SourceKind}
use Rattle.bpf_isa.specs.declared.instruction.SourceKind.TheVariants.{Immediate, Register}
use Rattle.bpf_isa.specs.declared.instruction.AtomicOp.{AtomicOp}
use Rattle.bpf_isa.specs.declared.instruction.AtomicOp.TheVariants.{Add, Or, And, Xor, FetchAdd, FetchOr, FetchAnd, FetchXor, Exchange, CompareExchange}
use Rattle.bpf_isa.specs.declared.row.Field.TheVariants.{Unused, Code, Used}
use Rattle.bpf_isa.specs.declared.row.Row.{Row}

-- The opcodes of the sizes W, H, B, DW.
abbrev pub sizes : ℕ → ℕ → ℕ → ℕ → Size → ℕ
sizes w h b dw Word = w
sizes w h b dw Half = h
sizes w h b dw Byte = b
sizes w h b dw Double = dw

-- Class LDX: MEM, and MEMSX, which extends the sign.
abbrev pub load_opcode : LoadSize → ℕ
load_opcode (Plain size) = sizes 0x61 0x69 0x71 0x79 size
load_opcode (Signed SignedWord) = 0x81
load_opcode (Signed SignedHalf) = 0x89
load_opcode (Signed SignedByte) = 0x91

-- dst takes what stands at src + offset.
abbrev pub load_row : LoadSize → Row
load_row size = record { opcode = load_opcode size; dst = Used; src = Used; offset = Used; imm = Unused; next = Unused }

-- MEM in class ST stores imm at dst + offset, and in class STX src.
abbrev pub store_row : Size → SourceKind → Row
store_row size Immediate = record { opcode = sizes 0x62 0x6a 0x72 0x7a size; dst = Used; src = Unused; offset = Used; imm = Used; next = Unused }
store_row size Register = record { opcode = sizes 0x63 0x6b 0x73 0x7b size; dst = Used; src = Used; offset = Used; imm = Unused; next = Unused }

-- ATOMIC in class STX, of 4 and 8 bytes.
abbrev pub atomic_opcode : Width → ℕ
atomic_opcode Bits32 = 0xc3
atomic_opcode Bits64 = 0xdb

-- imm tells the operation.
abbrev pub atomic_code : AtomicOp → ℕ
atomic_code Add = 0x00
atomic_code Or = 0x40
atomic_code And = 0x50
atomic_code Xor = 0xa0
atomic_code FetchAdd = 0x01
atomic_code FetchOr = 0x41
atomic_code FetchAnd = 0x51
atomic_code FetchXor = 0xa1
atomic_code Exchange = 0xe1
atomic_code CompareExchange = 0xf1

-- The operation is on what stands at dst + offset, with src.
abbrev pub atomic_row : AtomicOp → Width → Row
atomic_row op width = record { opcode = atomic_opcode width; dst = Used; src = Used; offset = Used; imm = Code (atomic_code op); next = Unused }
