-- Where the code stands in the words of a program, and which of its slots are there as they stand in their sections.
use Rattle.std.specs.Prelude.{◌≡◌, ℕ, ◌+◌, List, Option, Some, None}
use Rattle.bpf_link.specs.Begun.{counts}
use Rattle.bpf_link.specs.Packets.{HasWords}
use Rattle.bpf_link.specs.Parts.{first_of}
use Rattle.bpf_link.specs.Programs.{Asked, IsLinkedAs}
use Rattle.bpf_link.specs.Untouched.{IsLeft, lead}
use Rattle.bpf_link.specs.declared.linker.Linked.{Linked}
use Rattle.bpf_link.specs.declared.parts.Side.{Side}
use Rattle.bpf_lines.specs.Objects.{entry_slots}
use Rattle.bpf_packet.specs.Holding.{state_of}
use Rattle.bpf_packet.specs.Slots.{slot_at}
use Rattle.bpf_packet.specs.Uses.{patch_of}
use Rattle.bpf_packet.specs.declared.packet.Packet.{Packet}

-- The slot of a program's own words at which the code begins: behind the jump, where there is one. And that of the words that run: behind those that
-- give it its packet, where there are such.
abbrev pub own_begin : {asked : Asked} {program : Linked} → IsLinkedAs asked program → ℕ
own_begin it = lead it.linked.made.laid.stores it.linked.begun.slot

abbrev pub code_begin : {asked : Asked} {program : Linked} → IsLinkedAs asked program → ℕ
code_begin {asked = asked} it = entry_slots asked.packet + own_begin it

-- A slot of a program's own words is no access to a packet's struct, which would have another opcode and offset in the words that run.
abbrev pub IsNoAccess : (packet : Option Packet) (asked : Asked) (own words : List ℕ)
    → HasWords packet asked.object asked.name asked.entry own words → ℕ → Type 0
IsNoAccess None asked own words has slot = Unit {0}
IsNoAccess (Some kind) asked own words has slot = patch_of kind (slot_at own slot) (state_of has.0.table slot) ≡ None

-- A slot of the code, by its number there, stands in the words that run as it does in its section: linking leaves it, and it is no such access.
pub record IsKept {asked : Asked} {program : Linked} (it : IsLinkedAs asked program) (n : ℕ) : Type 0 where
  pub side : Side
  pub slot : ℕ
  pub place : n ≡ first_of (counts it.linked.begun).parts side + slot
  pub left : IsLeft (counts it.linked.begun) it.linked.begun.reach asked.stubs side slot
  pub no_access : IsNoAccess asked.packet asked it.own.words.items program.words.items it.words (own_begin it + n)
