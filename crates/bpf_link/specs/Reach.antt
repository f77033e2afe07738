-- Which slots of a program's code may be come to from its entry, by what their instructions say and whatever conditions decide.
use Rattle.std.specs.Prelude.{◌≡◌, ◌<◌, ℕ, ◌+◌, ◌*◌, ◌/◌, ◌%◌, ◌==◌, nat_lt, Bool, true, false, not, ◌&&◌, ◌||◌, if◌then◌else◌, List, get_or, length, slice_index}
use Rattle.bpf_isa.specs.Words.{u16_at, u32_at}
use Rattle.bpf_packet.specs.Slots.{extended}

-- The opcode in a slot, and the byte of its registers, whose high half is src.
abbrev pub opcode_at : List ℕ → ℕ → ℕ
opcode_at words slot = slice_index words (8 * slot)

abbrev pub registers_at : List ℕ → ℕ → ℕ
registers_at words slot = slice_index words (8 * slot + 1)

-- An instruction goes on to the slot after it: each but `exit` and the jumps that are always taken (RFC 9669, section 4.3).
abbrev pub goes_on : ℕ → Bool
goes_on opcode = not ((opcode == 0x95) || ((opcode == 0x05) || (opcode == 0x06)))

-- It jumps: one of the classes JMP, 5, and JMP32, 6, but `exit`, and of calls, 0x85, those of functions of the program, whose src is 1.
abbrev pub jumps : ℕ → ℕ → Bool
jumps opcode registers =
    if opcode == 0x85 then registers / 16 == 1 else (((opcode % 8 == 5) || (opcode % 8 == 6)) && not (opcode == 0x95))

-- How far, from the slot after it: by imm, of a call and of `ja32`, else by the offset, of 16 bits. In 32 bits of two's complement.
abbrev pub distance_at : List ℕ → ℕ → ℕ
distance_at words slot =
    if (opcode_at words slot == 0x85) || (opcode_at words slot == 0x06) then u32_at words (8 * slot + 4) else extended (u16_at words (8 * slot + 2))

-- Where it jumps.
abbrev pub target_of : List ℕ → ℕ → ℕ
target_of words slot = (slot + 1 + distance_at words slot) % 4294967296

-- From a slot a program may come to another. (The second slot of a wide load has opcode 0, so it goes on.)
abbrev pub leads : List ℕ → ℕ → ℕ → Bool
leads words slot next =
    (goes_on (opcode_at words slot) && (next == slot + 1))
    || (jumps (opcode_at words slot) (registers_at words slot) && (next == target_of words slot))

-- What is held of each slot: whether it is reached. Behind the last one none is.
abbrev pub is_reached : List Bool → ℕ → Bool
is_reached reach slot = get_or reach slot false

-- A set of slots has the entry, and with a slot each to which that leads.
pub record IsClosed (words : List ℕ) (entry : ℕ) (set : ℕ → Bool) : Type 0 where
  pub begins : set entry ≡ true
  pub goes : (slot next : ℕ) → set slot ≡ true → leads words slot next ≡ true → set next ≡ true

-- The slots that are reached: the least such set, among those that there are.
pub record IsReach (words : List ℕ) (entry : ℕ) (reach : List Bool) : Type 0 where
  pub size : length reach ≡ length words / 8
  pub begins : entry < length reach → is_reached reach entry ≡ true
  pub goes : (slot next : ℕ) → is_reached reach slot ≡ true → leads words slot next ≡ true → next < length reach → is_reached reach next ≡ true
  pub least : (set : ℕ → Bool) → IsClosed words entry set → (slot : ℕ) → is_reached reach slot ≡ true → set slot ≡ true
