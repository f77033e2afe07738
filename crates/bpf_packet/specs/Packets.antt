-- A program of the kernel's for packets, as one that the machine runs on a packet.
use Rattle.std.specs.Prelude.{◌≡◌, ◌⊎◌, ℕ, true, List, ◌++◌, None, Some}
use Rattle.bpf_packet.specs.Entry.{entry_words}
use Rattle.bpf_packet.specs.Least.{IsLeast}
use Rattle.bpf_packet.specs.Rewriting.{rewritten}
use Rattle.bpf_packet.specs.Slots.{slots_in}
use Rattle.bpf_packet.specs.Tables.{first_fault, is_right}
use Rattle.bpf_packet.specs.declared.fault.PacketFault.{PacketFault}
use Rattle.bpf_packet.specs.declared.fault.PacketFault.TheVariants.{Memory, Unsettled, Use}
use Rattle.bpf_packet.specs.declared.fault.SlotFault.{SlotFault}
use Rattle.bpf_packet.specs.declared.held.Held.{Held}
use Rattle.bpf_packet.specs.declared.packet.Packet.{Packet}

-- A table is the least that is right, and by it nothing is done with the context's address that may not be.
pub record IsTable (packet : Packet) (words : List ℕ) (table : List Held) : Type 0 where
  pub right : is_right words table ≡ true
  pub least : IsLeast words table
  pub clear : first_fault packet words table (slots_in words) ≡ None

-- The words of a program on a packet: by such a table its accesses to the context are to bpfdb's struct, which the words before them make.
pub record IsOnPacket (packet : Packet) (words new : List ℕ) : Type 0 where
  pub table : List Held
  pub fits : IsTable packet words table
  pub whole : new ≡ entry_words packet ++ rewritten packet words table

-- The first fault by the least table that is right.
pub record HasUseFault (packet : Packet) (words : List ℕ) (fault : SlotFault) : Type 0 where
  pub table : List Held
  pub right : is_right words table ≡ true
  pub least : IsLeast words table
  pub first : first_fault packet words table (slots_in words) ≡ Some fault

-- Why there are no such words. (That no right table was found is no promise of there being none.)
abbrev pub IsPacketFault : Packet → List ℕ → PacketFault → Type 0
IsPacketFault packet words fault =
    (fault ≡ Memory) ⊎ ((fault ≡ Unsettled) ⊎ ((told : SlotFault) × (fault ≡ Use told) × HasUseFault packet words told))
