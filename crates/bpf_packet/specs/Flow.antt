-- What places hold behind an instruction, by what they hold before it.
use Rattle.std.specs.Prelude.{ℕ, ◌%◌, ◌==◌, nat_le, nat_lt, Bool, not, ◌&&◌, ◌||◌, if◌then◌else◌, List}
use Rattle.bpf_packet.specs.Holding.{frame_place, held_in, is_framed, is_whole, outside, shifted, summed}
use Rattle.bpf_packet.specs.Slots.{class_of, is_call, is_local}
use Rattle.bpf_packet.specs.declared.held.Held.{Held}
use Rattle.bpf_packet.specs.declared.held.Held.TheVariants.{Other, Frame, Context, Left}
use Rattle.bpf_packet.specs.declared.slot.Slot.{Slot}

-- Atomic operations: in class STX of mode 6, of W and DW.
abbrev pub is_atomic : Slot → Bool
is_atomic slot = (slot.opcode == 0xc3) || (slot.opcode == 0xdb)

-- An atomic operation replaces r0, of a compare-exchange, 0xf1, or src, where its code has the bit FETCH.
abbrev pub fetches_to : Slot → ℕ → Bool
fetches_to slot place = if slot.imm == 0xf1 then place == 0 else ((slot.imm % 2 == 1) && (place == slot.src))

-- A load, arithmetic and a wide load replace dst.
abbrev pub gives_dst : Slot → Bool
gives_dst slot =
    (class_of slot == 1) || ((class_of slot == 4) || ((class_of slot == 7) || (slot.opcode == 0x18)))

-- An instruction replaces the register that is a place; a call replaces r0.
abbrev pub replaces : Slot → ℕ → Bool
replaces slot place =
    if is_call slot then place == 0
    else (if is_atomic slot then fetches_to slot place else (gives_dst slot && (place == slot.dst)))

-- What it holds then: a move of 64 bits takes over what src holds, an addition moves an address, a load of eight bytes of the frame gives what is there, and
-- what comes of an address of the frame and a register is one, too.
abbrev pub is_move : Slot → Bool
is_move slot = (slot.opcode == 0xbf) && (slot.offset == 0)

abbrev pub is_fill : Slot → Bool
is_fill slot = (slot.opcode == 0x79) && ((slot.src == 10) && is_whole slot.offset)

abbrev pub is_sum : Slot → Bool
is_sum slot = (slot.opcode == 0x0f) || (slot.opcode == 0x1f)

abbrev pub given : Slot → List Held → Held
given slot state =
    if is_move slot then held_in state slot.src
    else (if slot.opcode == 0x07 then shifted (held_in state slot.dst) slot.imm
    else (if is_fill slot then held_in state (frame_place slot.offset)
    else (if is_sum slot then summed (held_in state slot.dst) (held_in state slot.src) else Other)))

-- A called function may leave anything in r1 to r5.
abbrev pub forgets : Slot → ℕ → Bool
forgets slot place = is_local slot && (nat_lt 0 place && nat_le place 5)

-- A store to the frame is one to the piece of eight bytes in which it begins: the kernel wants it to be aligned. All eight may be an address.
abbrev pub is_frame_store : Slot → Bool
is_frame_store slot =
    ((class_of slot == 2) || (class_of slot == 3)) && ((slot.dst == 10) && is_framed slot.offset)

abbrev pub is_spill : Slot → Bool
is_spill slot = (slot.opcode == 0x7b) && ((slot.dst == 10) && is_whole slot.offset)

abbrev pub stored : Slot → List Held → Held
stored slot state = if is_spill slot then held_in state slot.src else Other

-- What a place holds in the slot after an instruction. (A function leaves r6 to r9 and the frame of its caller as they were.)
unfoldable pub after : Slot → List Held → ℕ → Held
after slot state place =
    if replaces slot place then given slot state
    else (if forgets slot place then Left
    else (if is_frame_store slot && (place == frame_place slot.offset) then stored slot state
    else held_in state place))

-- What it holds where an instruction jumps. A called function has a frame of its own, and r10 has the address of its end.
unfoldable pub entering : Slot → List Held → ℕ → Held
entering slot state place =
    if not (is_call slot) then held_in state place
    else (if nat_lt 10 place then Other else (if place == 10 then Frame 512 else outside (held_in state place)))

-- What it holds at the entry: r1 the context's address, and r10 that of the frame's end.
unfoldable pub at_entry : ℕ → Held
at_entry place = if place == 1 then Context 0 else (if place == 10 then Frame 512 else Other)
