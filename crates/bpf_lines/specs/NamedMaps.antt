-- The maps of a program that an object was linked to, as they are named.
use Rattle.std.specs.Prelude.{ℕ, zero, suc, ◌≡◌, ◌≢◌, ◌⊎◌, ◌+◌, ◌-◌, ◌*◌, ◌/◌, ◌%◌, ◌==◌, nat_lt, Bool, ◌&&◌, if◌then◌else◌, List, [], ◌∷◌, ◌++◌, length, slice_get, slice_index, codes, decimal, get_or, Option, Some, None, Ok, Err}
use Rattle.std.specs.Option.{option_map}
use Rattle.bpf_isa.specs.declared.maps.MapShape.{MapShape}
use Rattle.bpf_btf.specs.Layout.{is_called}
use Rattle.bpf_btf.specs.Maps.{last_below, value_type}
use Rattle.bpf_btf.specs.Sections.{IsRead, IsReadFault}
use Rattle.bpf_btf.specs.Types.{Types, type_of}
use Rattle.bpf_btf.specs.declared.fault.BtfFault.{BtfFault}
use Rattle.bpf_btf.specs.declared.fault.BtfFault.TheVariants as btf
use Rattle.bpf_link.specs.Data.{data_of}
use Rattle.bpf_link.specs.Links.{planned}
use Rattle.bpf_link.specs.MapTypes.{types_bytes, types_found}
use Rattle.bpf_link.specs.Names.{short_at}
use Rattle.bpf_link.specs.declared.fault.LinkFault.{LinkFault}
use Rattle.bpf_link.specs.declared.fault.LinkFault.TheVariants.{Memory}
use Rattle.bpf_link.specs.declared.plan.Plan.{Plan}
use Rattle.bpf_steps.specs.Platform.{map_base, map_stride}
use Rattle.bpfdb_script.specs.Shown.{shown}
use Rattle.bpf_lines.specs.Globals.{global_at}
use Rattle.bpf_lines.specs.Spots.{index_text, path_text, rest_text}
use Rattle.bpf_lines.specs.declared.globals.Global.{Global}
use Rattle.bpf_lines.specs.declared.named_maps.NamedMap.{NamedMap}
use Rattle.bpf_packet.specs.declared.packet.Packet.{Packet}
use Rattle.bpf_lines.specs.declared.place_names.Names.{Names}
use Rattle.bpf_lines.specs.declared.place_names.Located.{Located}

-- The list of variables of a section: the last type of kind DATASEC, 15, of its name.
abbrev pub is_list : Types → List ℕ → ℕ → Bool
is_list types name id = ((type_of types id).kind == 15) && is_called types.strings (type_of types id).name name

abbrev pub before_list : Types → List ℕ → Option ℕ
before_list types name = last_below (λ i. is_list types name (i + 1)) (length types.starts)

abbrev pub list_of : Types → List ℕ → Option ℕ
list_of types name = option_map (λ i. i + 1) (before_list types name)

-- A map that the object defines, by the type of its values; or a section of data, by the list of its variables.
abbrev pub root_of : Types → Option ℕ → List ℕ → Option ℕ
root_of types None name = value_type types name
root_of types (Some section) name = list_of types name

unfoldable pub named_map : Plan → Types → MapShape → ℕ → Option ℕ → NamedMap
named_map plan types shape place section = record {
  name = place;
  shape = shape;
  section = section;
  root = root_of types section (short_at plan.object.bytes place);
}

-- The object's own maps have the first numbers, and the sections of data those behind them.
abbrev pub section_of : ℕ → List ℕ → ℕ → Option ℕ
section_of own sections k = if nat_lt k own then None else slice_get sections (k - own)

abbrev pub kth_map : Plan → Types → ℕ → List ℕ → List MapShape → List ℕ → ℕ → NamedMap
kth_map plan types own sections shapes places k =
    named_map plan types (get_or shapes k (record { value_size = 0; entries = 0 })) (slice_index places k) (section_of own sections k)

abbrev pub first_maps : Plan → Types → ℕ → List ℕ → List MapShape → List ℕ → ℕ → List NamedMap
first_maps plan types own sections shapes places zero = []
first_maps plan types own sections shapes places (suc n) =
    first_maps plan types own sections shapes places n ++ kth_map plan types own sections shapes places n ∷ []

abbrev pub named_maps : Plan → Types → ℕ → List ℕ → List MapShape → List ℕ → List NamedMap
named_maps plan types own sections shapes places = first_maps plan types own sections shapes places (length shapes)

-- A section without types and names: a header of 24 bytes.
abbrev pub no_types : List ℕ
no_types = 0x9f ∷ 0xeb ∷ 1 ∷ 0 ∷ 24 ∷ 0 ∷ 0 ∷ 0 ∷ 0 ∷ 0 ∷ 0 ∷ 0 ∷ 0 ∷ 0 ∷ 0 ∷ 0 ∷ 0 ∷ 0 ∷ 0 ∷ 0 ∷ 0 ∷ 0 ∷ 0 ∷ 0 ∷ []

-- The types of an object are those that its BTF has: none where that isn't read for a fault of its own. (That memory ran out is none.)
abbrev pub AreTypesOf : List ℕ → Types → Type 0
AreTypesOf bytes types =
    IsRead bytes types ⊎ ((fault : BtfFault) × (fault ≢ btf.Memory) × IsReadFault bytes fault × IsRead no_types types)

-- What is known of the names of a section's program, which has so many maps of its own, and maps of these shapes, whose names stand there.
pub record AreNames (object section : List ℕ) (own : ℕ) (shapes : List MapShape) (places : List ℕ) (packet : Option Packet) (names : Names) : Type 0 where
  pub plans : planned object section ≡ Ok names.plan
  pub sections : List ℕ
  pub referred : data_of names.plan ≡ Ok sections
  pub types : AreTypesOf (types_bytes names.plan.object (types_found names.plan.object)) names.types
  pub maps : names.maps.items ≡ named_maps names.plan names.types own sections shapes places
  pub given : names.packet ≡ packet

-- Why nothing is known of them: the section isn't linked, or memory ran out.
abbrev pub IsNamesRefusal : List ℕ → List ℕ → LinkFault → Type 0
IsNamesRefusal object section fault =
    (fault ≡ Memory) ⊎ ((planned object section ≡ Err fault)
    ⊎ ((plan : Plan) × (planned object section ≡ Ok plan) × (data_of plan ≡ Err fault)))

-- The byte of a map that lies at an address.
abbrev pub located_in : ℕ → Option NamedMap → ℕ → Option Located
located_in number None offset = None
located_in number (Some map) offset =
    if nat_lt offset (map.shape.value_size * map.shape.entries) then Some (record { number = number; map = map; offset = offset })
    else None

abbrev pub located : List NamedMap → ℕ → Option Located
located maps a =
    if nat_lt a map_base then None
    else located_in ((a - map_base) / map_stride) (slice_get maps ((a - map_base) / map_stride)) ((a - map_base) % map_stride)

-- The name of a map, by its number where it has none.
abbrev pub base_text : ℕ → List ℕ → List ℕ
base_text number [] = codes "map " ++ decimal number
base_text number (b ∷ name) = shown (b ∷ name)

-- A byte of a value of a type, so far behind its beginning; of a type that isn't known only that.
abbrev pub typed_text : Types → Option ℕ → ℕ → List ℕ
typed_text types None offset = rest_text offset
typed_text types (Some of) offset = path_text types (record { of = of; offset = offset })

-- A byte of a value of a map: the map, the index, and what of the value it is.
unfoldable pub value_text : Types → Option ℕ → ℕ → ℕ → List ℕ
value_text types root size offset = index_text (offset / size) ++ typed_text types root (offset % size)

-- A byte of a section of data: the variable, and what of it that is; or the section.
abbrev pub global_text : List ℕ → Types → ℕ → List ℕ → ℕ → Option Global → List ℕ
global_text object types number name offset None = base_text number name ++ rest_text offset
global_text object types number name offset (Some global) =
    shown (short_at object global.name) ++ typed_text types global.of global.offset

abbrev pub sort_text : Names → Located → List ℕ → Option ℕ → List ℕ
sort_text names at name None =
    base_text at.number name ++ value_text names.types at.map.root at.map.shape.value_size at.offset
sort_text names at name (Some section) =
    global_text names.plan.object.bytes names.types at.number name at.offset (global_at names.plan names.types section at.map.root at.offset)

unfoldable pub name_text : Names → Located → List ℕ
name_text names at = sort_text names at (short_at names.plan.object.bytes at.map.name) at.map.section
