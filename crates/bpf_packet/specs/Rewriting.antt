-- The words of a program whose accesses to the context are to bpfdb's struct.
use Rattle.std.specs.Prelude.{ℕ, zero, suc, ◌+◌, ◌*◌, ◌/◌, ◌%◌, List, [], ◌∷◌, ◌++◌, Option, Some, None, slice_index, slice_range}
use Rattle.bpf_packet.specs.Holding.{state_of}
use Rattle.bpf_packet.specs.Slots.{slot_at, slots_in}
use Rattle.bpf_packet.specs.Uses.{patch_of}
use Rattle.bpf_packet.specs.declared.held.Held.{Held}
use Rattle.bpf_packet.specs.declared.packet.Access.{Access}
use Rattle.bpf_packet.specs.declared.packet.Packet.{Packet}

-- The eight bytes of a slot, and those with an access in place of its own: the opcode and the offset are that one's.
abbrev pub bytes_of : List ℕ → ℕ → List ℕ
bytes_of words p = slice_range words (8 * p) (8 * p + 8)

abbrev pub patched : List ℕ → Option Access → List ℕ
patched bytes None = bytes
patched bytes (Some access) =
    access.opcode ∷ (slice_index bytes 1 ∷ (access.offset % 256 ∷ (access.offset / 256 ∷ (slice_index bytes 4 ∷ (slice_index bytes 5
    ∷ (slice_index bytes 6 ∷ (slice_index bytes 7 ∷ [])))))))

-- The first n slots, one behind the other.
abbrev pub rewritten_below : Packet → List ℕ → List Held → ℕ → List ℕ
rewritten_below packet words table zero = []
rewritten_below packet words table (suc n) =
    rewritten_below packet words table n ++ patched (bytes_of words n) (patch_of packet (slot_at words n) (state_of table n))

abbrev pub rewritten : Packet → List ℕ → List Held → List ℕ
rewritten packet words table = rewritten_below packet words table (slots_in words)
