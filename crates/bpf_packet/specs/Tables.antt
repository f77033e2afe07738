-- Tables of what places hold at each slot of a program, and when a program may be run on the kernel's struct.
use Rattle.std.specs.Prelude.{ℕ, zero, suc, ◌+◌, ◌*◌, ◌==◌, nat_lt, Bool, not, ◌&&◌, ◌||◌, List, length, Option, Some, None}
use Rattle.bpf_packet.specs.Flow.{after, at_entry, entering}
use Rattle.bpf_packet.specs.Holding.{all_below, covers, held_in, is_something, most_places, state_of}
use Rattle.bpf_packet.specs.Slots.{goes_on, jumps, slot_at, slots_in, target_of}
use Rattle.bpf_packet.specs.Uses.{use_fault}
use Rattle.bpf_packet.specs.declared.fault.UseFault.{UseFault}
use Rattle.bpf_packet.specs.declared.fault.SlotFault.{SlotFault}
use Rattle.bpf_packet.specs.declared.held.Held.{Held}
use Rattle.bpf_packet.specs.declared.packet.Packet.{Packet}

-- A state holds at least what is given for each place.
unfoldable pub holds : List Held → (ℕ → Held) → Bool
holds state given = all_below (λ place. covers (held_in state place) (given place)) most_places

-- A slot is come to: r10 holds something there.
abbrev pub is_reached : List Held → Bool
is_reached state = is_something (held_in state 10)

-- The slot after one, and the one where it jumps, hold at least what it leaves.
abbrev pub goes_right : List ℕ → List Held → ℕ → Bool
goes_right words table p =
    not (goes_on (slot_at words p))
    || (nat_lt (p + 1) (slots_in words) && holds (state_of table (p + 1)) (after (slot_at words p) (state_of table p)))

abbrev pub jumps_right : List ℕ → List Held → ℕ → Bool
jumps_right words table p =
    let to = target_of p (slot_at words p) in
    not (jumps (slot_at words p))
    || (nat_lt to (slots_in words) && holds (state_of table to) (entering (slot_at words p) (state_of table p)))

unfoldable pub is_right_at : List ℕ → List Held → ℕ → Bool
is_right_at words table p =
    not (is_reached (state_of table p)) || (goes_right words table p && jumps_right words table p)

-- A table is right for words: it has a state for each slot, that of the entry holds what is there at first, and each slot that is come to passes on what it
-- leaves.
unfoldable pub is_right : List ℕ → List Held → Bool
is_right words table =
    (nat_lt 0 (slots_in words) && (length table == 75 * slots_in words))
    && (holds (state_of table 0) at_entry && all_below (is_right_at words table) (slots_in words))

-- The fault of a slot that is come to.
abbrev pub fault_at : Packet → List ℕ → List Held → ℕ → Option UseFault
fault_at packet words table p = use_fault packet (slot_at words p) (state_of table p)

-- The first fault below n.
abbrev pub or_at : Option SlotFault → ℕ → Option UseFault → Option SlotFault
or_at (Some fault) p told = Some fault
or_at None p None = None
or_at None p (Some fault) = Some (record { slot = p; fault = fault })

abbrev pub first_fault : Packet → List ℕ → List Held → ℕ → Option SlotFault
first_fault packet words table zero = None
first_fault packet words table (suc n) = or_at (first_fault packet words table n) n (fault_at packet words table n)
