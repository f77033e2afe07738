-- What a program may do with the context's address: load and store its fields, move it by a number, and keep it in registers and in its frame.
use Rattle.std.specs.Prelude.{ℕ, ◌+◌, ◌-◌, ◌/◌, ◌%◌, ◌==◌, nat_le, nat_lt, Bool, true, false, not, ◌&&◌, ◌||◌, if◌then◌else◌, List, Option, Some, None, is_some}
use Rattle.bpf_packet.specs.Fields.{field_of}
use Rattle.bpf_packet.specs.Flow.{is_move, is_spill}
use Rattle.bpf_packet.specs.Holding.{all_below, held_in, is_frame, is_free, is_shown, most_pieces}
use Rattle.bpf_packet.specs.Slots.{class_of, is_call, is_local}
use Rattle.bpf_packet.specs.declared.fault.UseFault.{UseFault}
use Rattle.bpf_packet.specs.declared.fault.UseFault.TheVariants.{NoField, Mixed, Arithmetic, Escapes}
use Rattle.bpf_packet.specs.declared.held.Held.{Held}
use Rattle.bpf_packet.specs.declared.held.Held.TheVariants.{Nothing, Other, Frame, Context, Either, Left}
use Rattle.bpf_packet.specs.declared.packet.Access.{Access}
use Rattle.bpf_packet.specs.declared.packet.Packet.{Packet}
use Rattle.bpf_packet.specs.declared.slot.Slot.{Slot}

-- Loads, LDX, and stores, ST and STX, and the register by which they go.
abbrev pub is_access : Slot → Bool
is_access slot = (class_of slot == 1) || ((class_of slot == 2) || (class_of slot == 3))

abbrev pub base_of : Slot → ℕ
base_of slot = if class_of slot == 1 then slot.src else slot.dst

-- An access by a register that has the address of a byte of the context, as far behind that one as the field lies.
abbrev pub from_place : ℕ → Option Access → Option Access
from_place at None = None
from_place at (Some access) = Some (record { opcode = access.opcode; offset = (access.offset + 65536 - at) % 65536 })

-- What an access through what a register holds becomes: one to a field of the context, where that is its address.
abbrev pub through : Packet → Slot → Held → Option Access
through packet slot (Context at) = from_place at (field_of packet slot.opcode ((at + slot.offset) % 65536))
through packet slot Nothing = None
through packet slot Other = None
through packet slot (Frame at) = None
through packet slot Either = None
through packet slot Left = None

unfoldable pub patch_of : Packet → Slot → List Held → Option Access
patch_of packet slot state = if is_access slot then through packet slot (held_in state (base_of slot)) else None

-- Why it may not be made.
abbrev pub through_fault : Packet → Slot → Held → Option UseFault
through_fault packet slot (Context at) = if is_some (through packet slot (Context at)) then None else Some NoField
through_fault packet slot Either = Some Mixed
through_fault packet slot Left = Some Mixed
through_fault packet slot Nothing = None
through_fault packet slot Other = None
through_fault packet slot (Frame at) = None

-- A store of the address itself: in all eight bytes of a piece of the frame, and nowhere else.
abbrev pub stores_address : Slot → List Held → Bool
stores_address slot state = (class_of slot == 3) && (not (is_spill slot) && not (is_free (held_in state slot.src)))

-- No piece from a byte of the frame on shows the context's address.
abbrev pub hides : List Held → ℕ → ℕ → Bool
hides state at k = nat_lt k (at / 8) || not (is_shown (held_in state (k + 11)))

unfoldable pub hides_behind : List Held → ℕ → Bool
hides_behind state begin = all_below (hides state begin) most_pieces

-- The first byte that may lie an offset behind an address of the frame.
abbrev pub first_of : ℕ → ℕ → ℕ
first_of at offset = let byte = (at + offset) % 65536 in if nat_le byte 512 then byte else 0

-- Where it lies in the frame, a load of eight bytes or a store of a register by another register than r10: by these it would come or go unseen. An address
-- that may be anywhere, as in a loop that goes down an array, isn't looked at: the context's address may be kept beside that.
abbrev pub shows_at : List Held → ℕ → Held → Bool
shows_at state offset (Frame at) = nat_lt 0 at && not (hides_behind state (first_of at offset))
shows_at state offset Nothing = false
shows_at state offset Other = false
shows_at state offset (Context at) = false
shows_at state offset Either = false
shows_at state offset Left = false

abbrev pub is_whole_access : Slot → Bool
is_whole_access slot = (slot.opcode == 0x79) || (slot.opcode == 0x7b)

abbrev pub goes_unseen : Slot → List Held → Bool
goes_unseen slot state =
    is_whole_access slot && (not (base_of slot == 10) && shows_at state slot.offset (held_in state (base_of slot)))

abbrev pub access_fault : Packet → Slot → List Held → Option UseFault
access_fault packet slot state =
    if stores_address slot state || goes_unseen slot state then Some Escapes else through_fault packet slot (held_in state (base_of slot))

-- Arithmetic reads dst, but of a move, 0xb, and src in form X, but of a byte swap, 0xd.
abbrev pub reads_dst : Slot → Bool
reads_dst slot = not (slot.opcode / 16 == 0xb)

abbrev pub reads_src : Slot → Bool
reads_src slot = (slot.opcode / 8 % 2 == 1) && not (slot.opcode / 16 == 0xd)

abbrev pub is_arithmetic : Slot → Bool
is_arithmetic slot = (class_of slot == 4) || (class_of slot == 7)

-- A move of 64 bits and an addition of a number, 0x07, may be of the address.
abbrev pub arithmetic_fault : Slot → List Held → Option UseFault
arithmetic_fault slot state =
    if is_move slot || (slot.opcode == 0x07) then None
    else (if (reads_dst slot && not (is_free (held_in state slot.dst))) || (reads_src slot && not (is_free (held_in state slot.src))) then Some Arithmetic
    else None)

-- How many registers a helper takes, from r1 on: lookup, 1, and update, 2, and trace, 64.
abbrev pub arguments_of : ℕ → ℕ
arguments_of helper = if helper == 1 then 2 else (if helper == 2 then 4 else (if helper == 64 then 1 else 5))

-- None of r1 to that one has the address.
abbrev pub is_free_argument : List Held → ℕ → Bool
is_free_argument state k = is_free (held_in state (k + 1))

abbrev pub helper_fault : Slot → List Held → Option UseFault
helper_fault slot state = if all_below (is_free_argument state) (arguments_of slot.imm) then None else Some Escapes

-- A function that is given an address of the frame finds what lies there and behind it, and all pieces where an address of the frame is among that. None
-- that it finds shows the context's address.
abbrev pub leads_nowhere : List Held → ℕ → ℕ → Bool
leads_nowhere state at k = nat_lt k (at / 8) || not (is_frame (held_in state (k + 11)))

unfoldable pub found_from : List Held → ℕ → ℕ
found_from state at = if all_below (leads_nowhere state at) most_pieces then at else 0

unfoldable pub hides_from : List Held → ℕ → Bool
hides_from state at = hides_behind state (found_from state at)

abbrev pub shows_none : List Held → Held → Bool
shows_none state (Frame at) = hides_from state at
shows_none state Nothing = true
shows_none state Other = true
shows_none state (Context at) = true
shows_none state Either = true
shows_none state Left = true

abbrev pub shows_none_by : List Held → ℕ → Bool
shows_none_by state k = shows_none state (held_in state (k + 1))

-- By none of r1 to r5 does it find the address there.
unfoldable pub hides_frame : List Held → Bool
hides_frame state = all_below (shows_none_by state) 5

-- A call of a function of the program is followed, but for what it reads in its caller's frame. What `exit`, 0x95, returns isn't.
abbrev pub control_fault : Slot → List Held → Option UseFault
control_fault slot state =
    if is_call slot && not (is_local slot) then helper_fault slot state
    else (if is_local slot && not (hides_frame state) then Some Escapes
    else (if (slot.opcode == 0x95) && not (is_free (held_in state 0)) then Some Escapes else None))

-- Why an instruction may not be run in a state.
unfoldable pub use_fault : Packet → Slot → List Held → Option UseFault
use_fault packet slot state =
    if is_access slot then access_fault packet slot state
    else (if is_arithmetic slot then arithmetic_fault slot state else control_fault slot state)
