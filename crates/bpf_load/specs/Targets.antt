-- What FILE comes to by what says which program runs: of an object its own object, what that comes to with others, and what is linked of this;
-- and the program, which the checker accepts.
use Rattle.std.specs.Prelude.{ℕ, ◌≡◌, ◌⊎◌, Bool, List, [], ◌∷◌, Vec, Option, Some, None, Result, Ok, map, option_map}
use Rattle.std.specs.declared.alloc.Global.{Global}
use Rattle.std.specs.Borrow.{Bor}
use Rattle.std.specs.Option.{option_map_or}
use Rattle.bpf_counts.specs.Counted.{IsCounted}
use Rattle.bpf_isa.specs.Maps.{IsMapList, items_of, shape_of}
use Rattle.bpf_isa.specs.Programs.{Checked, IsProgram}
use Rattle.bpf_isa.specs.declared.maps.MapShape.{MapShape}
use Rattle.bpf_join.specs.Chains.{IsChain}
use Rattle.bpf_join.specs.declared.joined.Joined.{Joined}
use Rattle.bpf_link.specs.Contexts.{HasContext, IsUnknownContext}
use Rattle.bpf_link.specs.Programs.{Asked, IsLinkedAs}
use Rattle.bpf_link.specs.StubLists.{stubs_in}
use Rattle.bpf_link.specs.declared.fault.LinkFault.{LinkFault}
use Rattle.bpf_link.specs.declared.stubs.Stub.{Stub}
use Rattle.bpf_packet.specs.declared.packet.Packet.{Packet}
use Rattle.bpf_text.specs.Listing.{IsListing}
use Rattle.bpf_turns.specs.Turned.{IsTurned}
use Rattle.bpf_load.specs.declared.loading.LinkedObject.{LinkedObject}
use Rattle.bpf_load.specs.declared.loading.Sources.{Sources}
use Rattle.bpf_load.specs.declared.program.Loaded.{Loaded}
use Rattle.bpf_load.specs.declared.target.SourceKind.{SourceKind}
use Rattle.bpf_load.specs.declared.target.SourceKind.TheVariants.{Words, Listing, Object}
use Rattle.bpf_load.specs.declared.target.Target.{Target}

-- Texts, and the bytes of files.
abbrev pub texts : List (Bor (List ℕ)) → List (List ℕ)
texts all = map (λ text. text.now) all

abbrev pub contents : List (Vec ℕ Global) → List (List ℕ)
contents all = map (λ file. file.items) all

-- The helpers whose calls are answered: none where none is named.
abbrev pub listed_stubs : Option (Bor (List ℕ)) → Result (List Stub) LinkFault
listed_stubs (Some text) = stubs_in text.now
listed_stubs None = Ok []

abbrev pub stubs_of : Target → Result (List Stub) LinkFault
stubs_of target = listed_stubs target.stubs

-- The kernel's struct of a packet that the entry of an object takes, by the object's types; none where nothing is known of it.
abbrev pub TellsPacket : List ℕ → List ℕ → List ℕ → Option Packet → Type 0
TellsPacket object section entry packet = HasContext object section entry packet
    ⊎ ((packet ≡ None) × (fault : LinkFault) × IsUnknownContext object section fault)

-- Programs are called in turn where some are named.
abbrev pub TurnsTo : List ℕ → List ℕ → List (List ℕ) → List ℕ → Type 0
TurnsTo object section [] own = own ≡ object
TurnsTo object section (turn ∷ turns) own = IsTurned object section (turn ∷ turns) own

-- FILE with the entries that its maps are told, and of that the object of its programs in turn.
pub record IsOwn (target : Target) (file own : List ℕ) : Type 0 where
  pub counted : List ℕ
  pub counts : IsCounted file target.section.now (texts target.counts.now) counted
  pub turns : TurnsTo counted target.section.now (texts target.turns.now) own

-- Others are joined to it where there are some.
abbrev pub JoinsTo : List ℕ → List (List ℕ) → List ℕ → Bool → Option Joined → Type 0
JoinsTo own [] section as_compiled joined = joined ≡ None
JoinsTo own (other ∷ others) section as_compiled None = ⊥
JoinsTo own (other ∷ others) section as_compiled (Some joined) = IsChain own (other ∷ others) section as_compiled joined

pub record Gathers (target : Target) (file : List ℕ) (sources : Sources) : Type 0 where
  pub own : IsOwn target file sources.own.items
  pub stubs : stubs_of target ≡ Ok sources.stubs.items
  pub joined : JoinsTo sources.own.items (contents target.with.now) target.section.now target.as_compiled sources.joined

-- The object that is linked, and what is asked of its link.
abbrev pub with_joined : List ℕ → Option Joined → List ℕ
with_joined own None = own
with_joined own (Some joined) = joined.bytes.items

abbrev pub object_of : Sources → List ℕ
object_of sources = with_joined sources.own.items sources.joined

abbrev pub asked_of : Target → Sources → Asked
asked_of target sources = record {
  object = object_of sources;
  name = target.section.now;
  entry = target.entry.now;
  stubs = sources.stubs.items;
  as_compiled = target.as_compiled;
  packet = target.packet;
}

-- What is linked of it, and how many relocations of fields are left undone in FILE's own code.
pub record LinksTo (target : Target) (file : List ℕ) (it : LinkedObject) : Type 0 where
  pub gathers : Gathers target file it.sources
  pub linked : IsLinkedAs (asked_of target it.sources) it.program

abbrev pub fields_of : LinkedObject → ℕ
fields_of linked = option_map_or (λ joined. joined.fields) linked.sources.joined linked.program.fields

-- The maps that a text names; none where there is no text.
abbrev pub AreNamedMaps : Option (Bor (List ℕ)) → List MapShape → Type 0
AreNamedMaps None maps = maps ≡ []
AreNamedMaps (Some text) maps = IsMapList text.now × (maps ≡ map shape_of (items_of text.now))

-- The words of FILE and their maps: words as they are and those of a listing, with the maps that are named; or those to which an object is linked,
-- with its own maps.
abbrev pub Holds : SourceKind → Target → List ℕ → Option LinkedObject → List ℕ → List MapShape → Type 0
Holds Object target file None words maps = ⊥
Holds Object target file (Some linked) words maps =
    LinksTo target file linked × (words ≡ linked.program.words.items) × (maps ≡ linked.program.shapes.items)
Holds Listing target file object words maps = (object ≡ None) × AreNamedMaps target.maps maps × IsListing file words
Holds Words target file object words maps = (object ≡ None) × AreNamedMaps target.maps maps × (words ≡ file)

-- One that is lent.
abbrev pub lent : Option (Bor LinkedObject) → Option LinkedObject
lent object = option_map (λ o. o.now) object

abbrev pub loaded_of : Checked → Option LinkedObject → Loaded
loaded_of program object = record { program = program; object = object }

-- The object that is known beside it: what FILE is linked to, where that is one.
abbrev pub IsObjectOf : SourceKind → Target → List ℕ → Option LinkedObject → Type 0
IsObjectOf Object target file None = ⊥
IsObjectOf Object target file (Some linked) = LinksTo target file linked
IsObjectOf kind target file object = object ≡ None

-- The program, which the checker accepts, and the object that it was linked of.
pub record Loads (target : Target) (file : List ℕ) (loaded : Loaded) : Type 0 where
  pub holds : Holds target.kind target file loaded.object loaded.program.bytes loaded.program.maps
  pub accepted : IsProgram loaded.program
