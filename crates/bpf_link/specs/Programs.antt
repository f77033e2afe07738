-- What is made of an object: a program with its maps.
use Rattle.std.specs.Prelude.{◌≡◌, ◌⊎◌, ◌≤◌, ℕ, ◌+◌, Bool, false, List, [], Option, None, Ok, length}
use Rattle.bpf_isa.specs.Checker.{IsAccepted}
use Rattle.bpf_link.specs.declared.fault.LinkFault.{LinkFault}
use Rattle.bpf_link.specs.declared.linker.LinkOptions.{LinkOptions}
use Rattle.bpf_link.specs.declared.linker.Linked.{Linked}
use Rattle.bpf_link.specs.declared.linker.Program.{Program}
use Rattle.bpf_link.specs.declared.plan.Plan.{Plan}
use Rattle.bpf_packet.specs.declared.packet.Packet.{Packet}
use Rattle.bpf_link.specs.declared.stubs.Stub.{Stub}
use Rattle.bpf_link.specs.Packets.{HasWords, IsWordsFault}
use Rattle.bpf_link.specs.FieldRelocations.{AreLeft, IsFieldsFault}
use Rattle.bpf_link.specs.Laid.{IsLaidOut}
use Rattle.bpf_link.specs.Begun.{Begun, counts}
use Rattle.bpf_link.specs.Links.{AllShapes, Made, least_maps, maps_of, program_of}
use Rattle.bpf_link.specs.MapNames.{HasNames}
use Rattle.bpf_link.specs.Refusals.{IsLinkFault}
use Rattle.bpf_link.specs.Shapes.{AreDataShapes, HasShapes}
use Rattle.bpf_isa.specs.Maps.{most_maps}

-- A program of a plan by its parts, and one with the shapes of its maps.
abbrev pub made_of : Program → Made
made_of program = record {
  words = program.words.items;
  maps = length program.maps.items;
  data_maps = program.data_maps.items;
  answered = program.answered;
}

abbrev pub linked_of : Linked → Made
linked_of program = record {
  words = program.words.items;
  maps = program.maps;
  data_maps = program.data_maps.items;
  answered = program.answered;
}

-- The maps of a program are those of its plan.
pub record HasOwnMaps (plan : Plan) (program : Program) : Type 0 where
  pub few : length program.maps.items + length program.data_maps.items ≤ most_maps
  pub maps : maps_of plan ≡ Ok program.maps.items
  pub of_data : AreDataShapes plan program.data_maps.items
  pub names : HasNames plan program.names.items

-- A program is that of a plan, and lies as the plan says.
pub record IsProgram (plan : Plan) (slot : ℕ) (reach : List Bool) (stubs : List Stub) (program : Program) : Type 0 where
  pub ok : program_of slot reach stubs plan ≡ Ok (made_of program)
  pub laid : IsLaidOut plan slot reach stubs program.words.items
  pub own : HasOwnMaps plan program
  pub possible : AllShapes program.data_maps.items

-- A program with the shapes and the names of its maps.
pub record IsShaped (plan : Plan) (made : Made) (program : Linked) : Type 0 where
  pub same : linked_of program ≡ made
  pub shapes : HasShapes plan program.shapes.items
  pub names : HasNames plan program.names.items

-- A program that is made of a plan. The checker accepts its words, for maps that have at least one byte.
pub record IsMade (plan : Plan) (slot : ℕ) (reach : List Bool) (stubs : List Stub) (program : Linked) : Type 0 where
  pub ok : program_of slot reach stubs plan ≡ Ok (linked_of program)
  pub laid : IsLaidOut plan slot reach stubs program.words.items
  pub shapes : HasShapes plan program.shapes.items
  pub names : HasNames plan program.names.items
  pub accepted : IsAccepted program.words.items (least_maps program.maps program.data_maps.items)

-- A program that is made of an object, of what counts of it.
pub record IsLinked (object name entry : List ℕ) (stubs : List Stub) (program : Linked) : Type 0 where
  pub begun : Begun object name entry
  pub made : IsMade (counts begun) begun.slot begun.reach stubs program

-- What is asked of a link: of an object a section, an entry, answers of helpers, whether fields may stay as compiled, and the struct that the entry takes.
pub record Asked : Type 0 where
  pub object : List ℕ
  pub name : List ℕ
  pub entry : List ℕ
  pub stubs : List Stub
  pub as_compiled : Bool
  pub packet : Option Packet

abbrev pub asked_of : List ℕ → LinkOptions → Asked
asked_of object options = record {
  object = object;
  name = options.section.now;
  entry = options.entry.now;
  stubs = options.stubs.now;
  as_compiled = options.as_compiled;
  packet = options.packet;
}

-- Nothing but a section.
abbrev pub plainly : List ℕ → List ℕ → Asked
plainly object name = record { object = object; name = name; entry = []; stubs = []; as_compiled = false; packet = None }

-- A program as it is asked for. So many relocations of its fields are left undone: none unless that is asked for. Its words are its own, whose context is the
-- machine's, or those of it on a packet.
pub record IsLinkedAs (asked : Asked) (program : Linked) : Type 0 where
  pub own : Linked
  pub linked : IsLinked asked.object asked.name asked.entry asked.stubs own
  pub rest : program ≡ record own { words = program.words; fields = program.fields }
  pub left : AreLeft asked.object asked.name asked.as_compiled program.fields
  pub words : HasWords asked.packet asked.object asked.name asked.entry own.words.items program.words.items

-- Why an object isn't linked: there is no program, or behind that its fields aren't to be left as compiled, or its entry takes another context.
abbrev pub IsLinkRefusal : Asked → LinkFault → Type 0
IsLinkRefusal asked fault =
    IsLinkFault asked.object asked.name asked.entry asked.stubs fault
    ⊎ ((program : Linked) × IsLinked asked.object asked.name asked.entry asked.stubs program
    × (IsFieldsFault asked.object asked.name asked.as_compiled fault
    ⊎ IsWordsFault asked.packet asked.object asked.name asked.entry program.words.items fault))
