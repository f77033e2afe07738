-- The object in which maps have as many entries as they are told: when there is one, and why there is none.
use Rattle.std.specs.Prelude.{◌≡◌, ◌≤◌, ◌<◌, ◌⊎◌, ℕ, zero, suc, ◌+◌, ◌==◌, Bool, if◌then◌else◌, List, [], Option, Some, None, Ok, Err, get_or, length}
use Rattle.std.specs.List.{before_first}
use Rattle.bpf_isa.specs.declared.fault.MapFault.TheVariants.{Entries}
use Rattle.bpf_btf.specs.Layout.{btf_header}
use Rattle.bpf_btf.specs.Maps.{map_description}
use Rattle.bpf_btf.specs.Sections.{IsRead, IsReadFault, strings_in, types_in}
use Rattle.bpf_btf.specs.Types.{Types as TypesOf}
use Rattle.bpf_btf.specs.declared.fault.BtfFault.{BtfFault}
use Rattle.bpf_btf.specs.declared.fault.BtfFault.TheVariants.{CutType, Limits, NoBtf}
use Rattle.bpf_btf.specs.declared.layout.BtfHeader.{BtfHeader}
use Rattle.bpf_btf.specs.declared.maps.MapDescription.{MapDescription}
use Rattle.bpf_link.specs.Links.{planned}
use Rattle.bpf_link.specs.MapTypes.{section_bytes}
use Rattle.bpf_link.specs.Names.{fault_names}
use Rattle.bpf_link.specs.Objects.{section_at}
use Rattle.bpf_link.specs.Sections.{found}
use Rattle.bpf_link.specs.declared.fault.LinkFault.{LinkFault}
use Rattle.bpf_link.specs.declared.fault.LinkFault.TheVariants as link
use Rattle.bpf_link.specs.declared.plan.Plan.{Plan}
use Rattle.bpf_link.specs.declared.sections.Found.TheVariants.{Only}
use Rattle.input_texts.specs.Counts.{count_in, map_in}
use Rattle.bpf_counts.specs.Btf.{btf_with}
use Rattle.bpf_counts.specs.Files.{is_types, replaced}
use Rattle.bpf_counts.specs.Walks.{IsCut, IsWalk, listed_at}
use Rattle.bpf_counts.specs.declared.told.CountFault.{CountFault}
use Rattle.bpf_counts.specs.declared.walk.Walk.{Walk}

-- The types and the strings of a section `.BTF`.
abbrev pub own_types : List ℕ → List ℕ
own_types btf = types_in btf (btf_header btf)

abbrev pub own_strings : List ℕ → List ℕ
own_strings btf = strings_in btf (btf_header btf)

-- Where they end.
abbrev pub types_end : BtfHeader → ℕ
types_end header = header.size + header.types_at + header.types_size

abbrev pub strings_end : BtfHeader → ℕ
strings_end header = header.size + header.strings_at + header.strings_size

-- What a section says of the map of a name, as `link` reads it; and why it says nothing.
pub record IsDescribed (btf name : List ℕ) (said : MapDescription) : Type 0 where
  pub types : TypesOf
  pub read : IsRead btf types
  pub described : map_description types name ≡ Ok said

abbrev pub IsUndescribed : List ℕ → List ℕ → ℕ → LinkFault → Type 0
IsUndescribed btf name place fault =
    ((why : BtfFault) × IsReadFault btf why × (fault ≡ link.Types why))
    ⊎ ((types : TypesOf) × (why : BtfFault) × IsRead btf types × (map_description types name ≡ Err why) × (fault ≡ link.Map place why))

-- The section in which the map has so many entries, and is as it was for the rest.
pub record IsRecounted (btf : List ℕ) (said : MapDescription) (name : List ℕ) (count : ℕ) (new : List ℕ) : Type 0 where
  pub walk : Walk
  pub walked : IsWalk (own_types btf) (own_strings btf) walk
  pub made : new ≡ btf_with (own_types btf) (own_strings btf) walk said name count

-- There is none where a type is cut off, or where as many variables are listed as a section of maps can have.
abbrev pub HasManyRecords : List ℕ → Walk → LinkFault → Type 0
HasManyRecords types walk fault = (fault ≡ link.ManyRecords) × (786420 ≤ length (listed_at types walk.maps))

pub data IsUnrecounted (btf : List ℕ) (fault : LinkFault) : Type 0 where
  CutOff : IsCut (own_types btf) → fault ≡ link.Types CutType → IsUnrecounted btf fault
  Full : (walk : Walk) → IsWalk (own_types btf) (own_strings btf) walk → HasManyRecords (own_types btf) walk fault → IsUnrecounted btf fault

-- A section is the only one of BTF, and what it holds.
abbrev pub HasTypes : Plan → ℕ → Type 0
HasTypes plan i = found (is_types plan.object) plan.object.sections ≡ Only i

abbrev pub types_of : Plan → ℕ → List ℕ
types_of plan i = section_bytes plan.object (section_at plan.object i)

-- The object of a plan in which the map of a name has so many entries.
pub record IsCountedIn (plan : Plan) (name : List ℕ) (count : ℕ) (all : List ℕ) : Type 0 where
  pub i : ℕ
  pub has : HasTypes plan i
  pub said : MapDescription
  pub described : IsDescribed (types_of plan i) name said
  pub btf : List ℕ
  pub recounted : IsRecounted (types_of plan i) said name count btf
  pub made : replaced plan.object.bytes i btf ≡ Ok all

-- Why there is none: it has not just one section of BTF; what that says of the map isn't known; that has no room for it; or its header isn't in the file.
pub data IsUncountedIn (plan : Plan) (name : List ℕ) (count : ℕ) (fault : LinkFault) : Type 0 where
  NoTypes : ((i : ℕ) → HasTypes plan i → ⊥) → fault ≡ link.Types NoBtf → IsUncountedIn plan name count fault
  Unread : (i : ℕ) → HasTypes plan i → IsUndescribed (types_of plan i) name (length plan.object.bytes) fault → IsUncountedIn plan name count fault
  Unmade : (i : ℕ) → HasTypes plan i → (said : MapDescription) → IsDescribed (types_of plan i) name said
      → IsUnrecounted (types_of plan i) fault → IsUncountedIn plan name count fault
  NoRoom : (i : ℕ) → HasTypes plan i → (said : MapDescription) → IsDescribed (types_of plan i) name said → (btf : List ℕ)
      → IsRecounted (types_of plan i) said name count btf → replaced plan.object.bytes i btf ≡ Err fault → IsUncountedIn plan name count fault

-- The section of code by which an object is opened: the one that is named, or the first of those that it has.
abbrev pub is_comma : ℕ → Bool
is_comma byte = byte == 44

abbrev pub or_first : List ℕ → List ℕ → List ℕ
or_first bytes section = if length section == 0 then before_first is_comma (fault_names bytes [] link.NoSection) else section

-- The object in a file, by that section, in which the map of a name has as many entries as a text says.
abbrev pub IsCountedOf : List ℕ → List ℕ → List ℕ → Option ℕ → List ℕ → Type 0
IsCountedOf bytes section name None all = ⊥
IsCountedOf bytes section name (Some count) all =
    (plan : Plan) × (planned bytes (or_first bytes section) ≡ Ok plan) × IsCountedIn plan name count all

abbrev pub IsCountedBy : List ℕ → List ℕ → List ℕ → List ℕ → Type 0
IsCountedBy bytes section text all = IsCountedOf bytes section (map_in text) (count_in text) all

-- Why there is none: the text says no number; or the file isn't such an object, or that has no such map.
abbrev pub IsUncountedOf : List ℕ → List ℕ → List ℕ → Option ℕ → LinkFault → Type 0
IsUncountedOf bytes section name None fault = fault ≡ link.Map (length bytes) (Limits Entries)
IsUncountedOf bytes section name (Some count) fault = (planned bytes (or_first bytes section) ≡ Err fault)
    ⊎ ((plan : Plan) × (planned bytes (or_first bytes section) ≡ Ok plan) × IsUncountedIn plan name count fault)

abbrev pub IsUncountedBy : List ℕ → List ℕ → List ℕ → LinkFault → Type 0
IsUncountedBy bytes section text fault = IsUncountedOf bytes section (map_in text) (count_in text) fault

-- That of the first k texts, one after the other.
abbrev pub AreCounted : List ℕ → List ℕ → List (List ℕ) → ℕ → List ℕ → Type 0
AreCounted bytes section texts zero all = all ≡ bytes
AreCounted bytes section texts (suc k) all =
    (before : List ℕ) × AreCounted bytes section texts k before × IsCountedBy before section (get_or texts k []) all

abbrev pub IsCounted : List ℕ → List ℕ → List (List ℕ) → List ℕ → Type 0
IsCounted bytes section texts all = AreCounted bytes section texts (length texts) all

-- Which text there is no such object of, and why.
pub record IsCountFault (bytes section : List ℕ) (texts : List (List ℕ)) (it : CountFault) : Type 0 where
  pub before : List ℕ
  pub counted : AreCounted bytes section texts it.which before
  pub why : (it.fault ≡ link.Memory) ⊎ ((it.which < length texts) × IsUncountedBy before section (get_or texts it.which []) it.fault)
