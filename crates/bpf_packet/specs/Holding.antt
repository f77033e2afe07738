-- What places hold: registers, and the eight bytes at each multiple of eight of the frame.
use Rattle.std.specs.Prelude.{ℕ, zero, suc, ◌+◌, ◌-◌, ◌*◌, ◌/◌, ◌%◌, ◌==◌, nat_le, nat_lt, Bool, true, false, ◌&&◌, if◌then◌else◌, List, get_or, slice_range}
use Rattle.bpf_packet.specs.declared.held.Held.{Held}
use Rattle.bpf_packet.specs.declared.held.Held.TheVariants.{Nothing, Other, Frame, Context, Either, Left}

-- One holds at least what the other one does: Nothing is below all, Other below the addresses of the frame, of which one is below those that lie before it,
-- Either above these and what is the context's, and Left above all.
abbrev pub covers : Held → Held → Bool
covers Nothing Nothing = true
covers Nothing Other = false
covers Nothing (Frame a) = false
covers Nothing (Context a) = false
covers Nothing Either = false
covers Nothing Left = false
covers Other Nothing = true
covers Other Other = true
covers Other (Frame a) = false
covers Other (Context a) = false
covers Other Either = false
covers Other Left = false
covers (Frame a) Nothing = true
covers (Frame a) Other = true
covers (Frame a) (Frame b) = nat_le a b
covers (Frame a) (Context b) = false
covers (Frame a) Either = false
covers (Frame a) Left = false
covers (Context a) Nothing = true
covers (Context a) Other = false
covers (Context a) (Frame b) = false
covers (Context a) (Context b) = a == b
covers (Context a) Either = false
covers (Context a) Left = false
covers Either Nothing = true
covers Either Other = true
covers Either (Frame a) = true
covers Either (Context a) = true
covers Either Either = true
covers Either Left = false
covers Left held = true

-- It isn't the context's address.
abbrev pub is_free : Held → Bool
is_free Nothing = true
is_free Other = true
is_free (Frame at) = true
is_free (Context at) = false
is_free Either = false
is_free Left = false

-- It may be read, and is the context's address on some way.
abbrev pub is_shown : Held → Bool
is_shown (Context at) = true
is_shown Either = true
is_shown Nothing = false
is_shown Other = false
is_shown (Frame at) = false
is_shown Left = false

abbrev pub is_frame : Held → Bool
is_frame (Frame at) = true
is_frame Nothing = false
is_frame Other = false
is_frame (Context at) = false
is_frame Either = false
is_frame Left = false

abbrev pub is_something : Held → Bool
is_something Nothing = false
is_something Other = true
is_something (Frame at) = true
is_something (Context at) = true
is_something Either = true
is_something Left = true

-- The places: 0 to 10 are r0 to r10, and from 11 on the 64 pieces of the frame.
unfoldable pub most_places : ℕ
most_places = 75

unfoldable pub most_pieces : ℕ
most_pieces = 64

-- A state holds something at each place.
abbrev pub held_in : List Held → ℕ → Held
held_in state place = get_or state place Nothing

-- The offsets from r10 that lie in the frame are -512 to -1: 65,024 and above in 16 bits of two's complement.
abbrev pub is_framed : ℕ → Bool
is_framed offset = nat_le 65024 offset

-- A place of the frame, and an access to all of it.
abbrev pub frame_place : ℕ → ℕ
frame_place offset = 11 + (offset - 65024) / 8

abbrev pub is_whole : ℕ → Bool
is_whole offset = is_framed offset && (offset % 8 == 0)

-- An address of the frame that is moved by a number of 32 bits: 512 is the frame's end, and 0 stands for anywhere in it.
abbrev pub moved : ℕ → ℕ → Held
moved at imm = let place = (at + imm) % 4294967296 in if nat_lt 0 at && nat_le place 512 then Frame place else Frame 0

-- An address of the frame and a number, added: it lies there or behind it, as far as numbers aren't below zero.
abbrev pub summed : Held → Held → Held
summed (Frame at) b = Frame at
summed Nothing (Frame at) = Frame at
summed Nothing Nothing = Other
summed Nothing Other = Other
summed Nothing (Context at) = Other
summed Nothing Either = Other
summed Nothing Left = Other
summed Other (Frame at) = Frame at
summed Other Nothing = Other
summed Other Other = Other
summed Other (Context at) = Other
summed Other Either = Other
summed Other Left = Other
summed (Context a) (Frame at) = Frame at
summed (Context a) Nothing = Other
summed (Context a) Other = Other
summed (Context a) (Context at) = Other
summed (Context a) Either = Other
summed (Context a) Left = Other
summed Either (Frame at) = Frame at
summed Either Nothing = Other
summed Either Other = Other
summed Either (Context at) = Other
summed Either Either = Other
summed Either Left = Other
summed Left (Frame at) = Frame at
summed Left Nothing = Other
summed Left Other = Other
summed Left (Context at) = Other
summed Left Either = Other
summed Left Left = Other

-- What a called function finds: an address of its caller's frame is none of its own.
abbrev pub outside : Held → Held
outside (Frame at) = Other
outside Nothing = Nothing
outside Other = Other
outside (Context at) = Context at
outside Either = Either
outside Left = Left

-- An address that is moved by a number of 32 bits: it stays one of the context's within its first 256 bytes.
abbrev pub shifted : Held → ℕ → Held
shifted (Context at) imm = let place = (at + imm) % 4294967296 in if nat_lt place 256 then Context place else Either
shifted (Frame at) imm = moved at imm
shifted Nothing imm = Nothing
shifted Other imm = Other
shifted Either imm = Either
shifted Left imm = Left

-- All numbers below n pass a test.
abbrev pub all_below : (ℕ → Bool) → ℕ → Bool
all_below test zero = true
all_below test (suc n) = all_below test n && test n

-- A table has a state for each slot, one behind the other.
abbrev pub state_of : List Held → ℕ → List Held
state_of table p = slice_range table (75 * p) (75 * p + 75)
