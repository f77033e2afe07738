-- The words of a program by what context its entry takes: the machine's, or a packet's struct of the kernel's.
use Rattle.std.specs.Prelude.{◌≡◌, ◌⊎◌, ◌<◌, ◌≤◌, ℕ, ◌*◌, List, Option, Some, None, Result, Ok, Err, length}
use Rattle.bpf_isa.specs.Checker.{most_slots}
use Rattle.bpf_packet.specs.Packets.{IsOnPacket, IsPacketFault}
use Rattle.bpf_packet.specs.declared.fault.PacketFault.{PacketFault}
use Rattle.bpf_packet.specs.declared.fault.PacketFault.TheVariants as packet
use Rattle.bpf_packet.specs.declared.packet.Packet.{Packet}
use Rattle.bpf_link.specs.declared.fault.LinkFault.{LinkFault}
use Rattle.bpf_link.specs.declared.fault.LinkFault.TheVariants as link
use Rattle.bpf_link.specs.declared.plan.Plan.{Plan}
use Rattle.bpf_link.specs.declared.sources.Source.{Source}
use Rattle.bpf_link.specs.Contexts.{HasContext, IsContextFault}
use Rattle.bpf_link.specs.Links.{planned}
use Rattle.bpf_link.specs.Sources.{source_of}

-- From where a slot of a program comes, where there is a plan.
abbrev pub source_in : Result Plan LinkFault → List ℕ → ℕ → Option Source
source_in (Ok plan) words slot = source_of plan words slot
source_in (Err fault) words slot = None

-- What is told of a program that can't be run on a packet.
abbrev pub told_of_packet : List ℕ → List ℕ → List ℕ → PacketFault → LinkFault
told_of_packet object name words packet.Memory = link.Memory
told_of_packet object name words packet.Unsettled = link.Unsettled
told_of_packet object name words (packet.Use told) =
    link.Packet told.fault told.slot (source_in (planned object name) words told.slot)

-- The words that make the struct and go by it are too many.
abbrev pub IsTooLong : Packet → List ℕ → Type 0
IsTooLong kind own = (words : List ℕ) × IsOnPacket kind own words × (8 * most_slots < length words)

abbrev pub IsPacketRefusal : Packet → List ℕ → List ℕ → List ℕ → LinkFault → Type 0
IsPacketRefusal kind object name own fault =
    ((why : PacketFault) × IsPacketFault kind own why × (fault ≡ told_of_packet object name own why))
    ⊎ ((fault ≡ link.TooLong) × IsTooLong kind own)

-- The words of a program: its own, whose entry doesn't take the kernel's own struct; or, where that is asked for, those that make the struct and go by it, if these are not too many.
abbrev pub HasWords : Option Packet → List ℕ → List ℕ → List ℕ → List ℕ → List ℕ → Type 0
HasWords None object name entry own words = (words ≡ own) × HasContext object name entry None
HasWords (Some kind) object name entry own words = IsOnPacket kind own words × (length words ≤ 8 * most_slots)

-- Why there are none.
abbrev pub IsWordsFault : Option Packet → List ℕ → List ℕ → List ℕ → List ℕ → LinkFault → Type 0
IsWordsFault None object name entry own fault = IsContextFault object name entry fault
IsWordsFault (Some kind) object name entry own fault = IsPacketRefusal kind object name own fault
