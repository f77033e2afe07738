-- The slots of a program, and where its instructions lead (RFC 9669, sections 3 and 4.3).
use Rattle.std.specs.Prelude.{ℕ, ◌+◌, ◌*◌, ◌/◌, ◌%◌, ◌==◌, nat_lt, Bool, not, ◌&&◌, ◌||◌, if◌then◌else◌, List, length, slice_index}
use Rattle.bpf_isa.specs.Words.{u16_at, u32_at}
use Rattle.bpf_packet.specs.declared.slot.Slot.{Slot}

-- The fields of a slot. (The second slot of a wide load has opcode 0.)
abbrev pub slot_at : List ℕ → ℕ → Slot
slot_at words p = record {
  opcode = slice_index words (8 * p);
  dst = slice_index words (8 * p + 1) % 16;
  src = slice_index words (8 * p + 1) / 16;
  offset = u16_at words (8 * p + 2);
  imm = u32_at words (8 * p + 4);
}

abbrev pub slots_in : List ℕ → ℕ
slots_in words = length words / 8

-- Classes: LDX, 1; ST, 2; STX, 3; ALU, 4; JMP, 5; JMP32, 6; ALU64, 7.
abbrev pub class_of : Slot → ℕ
class_of slot = slot.opcode % 8

abbrev pub is_call : Slot → Bool
is_call slot = slot.opcode == 0x85

-- A call of a function of the program.
abbrev pub is_local : Slot → Bool
is_local slot = is_call slot && (slot.src == 1)

-- An instruction goes on to the slot after it: each but `exit` and the jumps that are always taken.
abbrev pub goes_on : Slot → Bool
goes_on slot = not ((slot.opcode == 0x95) || ((slot.opcode == 0x05) || (slot.opcode == 0x06)))

-- It jumps, or calls a function of the program.
abbrev pub jumps : Slot → Bool
jumps slot =
    if is_call slot then slot.src == 1 else (((class_of slot == 5) || (class_of slot == 6)) && not (slot.opcode == 0x95))

-- How far, from the slot after it: by imm, of a call and of `ja32`, else by the offset. In 32 bits of two's complement.
abbrev pub extended : ℕ → ℕ
extended offset = if nat_lt offset 32768 then offset else offset + 4294901760

abbrev pub distance_of : Slot → ℕ
distance_of slot = if is_call slot || (slot.opcode == 0x06) then slot.imm else extended slot.offset

-- Where it jumps.
abbrev pub target_of : ℕ → Slot → ℕ
target_of p slot = (p + 1 + distance_of slot) % 4294967296
