-- The program that a section asks for of an object: which one it is, as `link` takes such options, and the table of its lines.
use Rattle.std.specs.Prelude.{ℕ, ◌≡◌, Bool, true, false, List, [], codes, Option, Some, None}
use Rattle.bpf_lines.specs.Objects.{AreProgramLines, program_table}
use Rattle.bpf_lines.specs.declared.objects.LinesFault.{LinesFault}
use Rattle.bpf_lines.specs.declared.objects.ObjectLines.{ObjectLines}
use Rattle.bpf_link.specs.Homes.{home_of}
use Rattle.bpf_link.specs.Names.{fault_names}
use Rattle.bpf_load.specs.Targets.{TellsPacket, contents, texts}
use Rattle.bpf_load.specs.declared.loading.LinkedObject.{LinkedObject}
use Rattle.bpf_load.specs.declared.target.Target.{Target}
use Rattle.bpf_packet.specs.declared.packet.Packet.{Packet}
use Rattle.suite_files.specs.Asks.{entry_in, names_one, turns_in}
use Rattle.suite_files.specs.declared.asked.Asked.{Asked}

-- The section that is named, or that in which the entry lies of an object with several.
abbrev pub section_from : Option (List ℕ) → List ℕ → List ℕ
section_from None home = home
section_from (Some name) home = name

abbrev pub section_of : Asked → List ℕ → List ℕ
section_of asked object = section_from asked.section (home_of object (entry_in (texts asked.entries.items)))

-- The kernel's struct that is asked for; or of one program the one that the object's types tell.
abbrev pub IsPacketOf : Option Packet → Bool → List ℕ → List ℕ → List ℕ → Option Packet → Type 0
IsPacketOf (Some asked) one object section entry packet = packet ≡ Some asked
IsPacketOf None true object section entry packet = TellsPacket object section entry packet
IsPacketOf None false object section entry packet = packet ≡ None

-- Which program is asked for of an object, with these others joined to it.
pub record IsTargetOf (asked : Asked) (object : List ℕ) (others : List (List ℕ)) (target : Target) : Type 0 where
  pub section : target.section.now ≡ section_of asked object
  pub entry : target.entry.now ≡ entry_in (texts asked.entries.items)
  pub counts : texts target.counts.now ≡ []
  pub turns : texts target.turns.now ≡ turns_in (texts asked.entries.items)
  pub with : contents target.with.now ≡ others
  pub stubs : target.stubs ≡ asked.stubs
  pub as_compiled : target.as_compiled ≡ true
  pub packet : IsPacketOf asked.packet (names_one (texts asked.entries.items)) object target.section.now target.entry.now target.packet

-- What is told of a program's slots: where they stand in the source of what it was linked of.
abbrev pub AreLines : Target → LinkedObject → List ObjectLines → Type 0
AreLines target loaded all = AreProgramLines loaded.sources.own.items target.section.now (contents target.with.now) all

-- A table of them, where one is wanted: the one that `lines` writes of the same objects, behind what gives the program the packet that is asked for.
abbrev pub IsTableOf : Bool → Target → LinkedObject → List ℕ → Type 0
IsTableOf false target loaded table = table ≡ []
IsTableOf true target loaded table =
    (all : List ObjectLines) × AreLines target loaded all × (table ≡ program_table target.packet loaded.program.words.items all)

-- The names that are told where a list of lines is malformed: of an object with functions it is that of these.
abbrev pub section_told : Option ℕ → List ℕ → List ℕ
section_told None section = section
section_told (Some index) section = codes ".text"

abbrev pub names_told : List ℕ → LinesFault → List ℕ
names_told section refused = fault_names refused.object (section_told refused.index section) refused.fault
