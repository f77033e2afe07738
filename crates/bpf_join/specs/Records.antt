-- The records of the first object's maps: what a map's functions are told of it.
use Rattle.std.specs.Prelude.{◌≡◌, ℕ, ◌+◌, nat_lt, nat_le, Bool, List, [], ◌∷◌, ◌++◌, Result, Ok, Err, true, false, ◌⊎◌, length, replicate, slice_index, if◌then◌else◌}
use Rattle.bpf_btf.specs.Maps.{map_description}
use Rattle.bpf_btf.specs.Sections.{IsRead}
use Rattle.bpf_btf.specs.Types.{Types}
use Rattle.bpf_btf.specs.declared.fault.BtfFault.{BtfFault}
use Rattle.bpf_btf.specs.declared.fault.BtfFault.TheVariants.{NoMap}
use Rattle.bpf_btf.specs.declared.maps.MapDescription.{MapDescription}
use Rattle.bpf_link.specs.Data.{is_among}
use Rattle.bpf_link.specs.Links.{MemoryOr}
use Rattle.bpf_link.specs.Layout.{map_definition}
use Rattle.bpf_link.specs.MapTypes.{name_place, symbol_of, types_bytes, types_found}
use Rattle.bpf_link.specs.Patches.{is_map, with_u32}
use Rattle.bpf_link.specs.Refusals.{HasReadFault}
use Rattle.bpf_link.specs.Tables.{symbol_at}
use Rattle.bpf_link.specs.declared.fault.LinkFault.{LinkFault}
use Rattle.bpf_link.specs.declared.fault.LinkFault.TheVariants as link
use Rattle.bpf_link.specs.declared.plan.Plan.{Plan}
use Rattle.bpf_link.specs.Plans.{after, steps}
use Rattle.bpf_join.specs.Spots.{name_at_most}

-- A record has 64 bytes: the map's kind, the sizes of a key and of a value, and its most entries, of four bytes each; the rest is zeros, which its functions may use.
abbrev pub record_bytes : MapDescription → List ℕ
record_bytes it = with_u32 (with_u32 (with_u32 (with_u32 (replicate 64 0) 0 it.kind) 4 it.key_size) 8 it.value_size) 12 it.entries

-- The places of the maps that the symbols of an object name, in the order of the symbols. There are at most 1,024.
abbrev pub most_records : ℕ
most_records = 1024

abbrev pub with_place : ℕ → List ℕ → Result (List ℕ) LinkFault
with_place place places =
    if is_among places place then Ok places
    else (if nat_lt (length places) most_records then Ok (places ++ place ∷ []) else Err link.ManyRecords)

abbrev pub with_map_of : Plan → ℕ → List ℕ → Result (List ℕ) LinkFault
with_map_of plan i places =
    if is_map plan.maps (symbol_at plan.symbols i) then with_place (symbol_at plan.symbols i).value places else Ok places

abbrev pub map_places : Plan → Result (List ℕ) LinkFault
map_places plan = steps (with_map_of plan) [] (length plan.symbols)

-- They have records where the functions answer lookups, helper 1; else there is none.
abbrev pub places_of : Plan → Bool → Result (List ℕ) LinkFault
places_of first true = map_places first
places_of first false = Ok []

-- What is said of the map at a place: by BTF of one in `.maps`, else by its definition in the section `maps`.
abbrev pub named_place : Plan → ℕ → ℕ
named_place plan place = name_place plan (symbol_of plan place)

abbrev pub told_of : ℕ → Result MapDescription BtfFault → Result MapDescription LinkFault
told_of at (Ok it) = Ok it
told_of at (Err fault) = Err (link.Map at fault)

abbrev pub typed : Plan → Types → ℕ → Result MapDescription LinkFault
typed plan types place =
    told_of (named_place plan place) (map_description types (name_at_most plan.object.bytes (named_place plan place)))

abbrev pub described : List ℕ → ℕ → MapDescription
described definitions place =
    let it = map_definition definitions place in record { kind = it.kind; key_size = it.key_size; value_size = it.value_size; entries = it.entries }

abbrev pub defined : Plan → ℕ → Result MapDescription LinkFault
defined plan place =
    if nat_le (place + 16) (length plan.definitions) then Ok (described plan.definitions place) else Err (link.Map (named_place plan place) NoMap)

-- The records of maps at places.
abbrev pub with_told : Result MapDescription LinkFault → List ℕ → Result (List ℕ) LinkFault
with_told told records = after told (λ it. Ok (records ++ record_bytes it))

abbrev pub with_record : (ℕ → Result MapDescription LinkFault) → List ℕ → ℕ → List ℕ → Result (List ℕ) LinkFault
with_record say places k records = with_told (say (slice_index places k)) records

abbrev pub records_by : (ℕ → Result MapDescription LinkFault) → List ℕ → Result (List ℕ) LinkFault
records_by say places = steps (with_record say places) [] (length places)

-- Those of an object's maps.
abbrev pub HasRecords : Bool → Plan → List ℕ → List ℕ → Type 0
HasRecords true plan places records =
    (types : Types) × IsRead (types_bytes plan.object (types_found plan.object)) types × (records_by (typed plan types) places ≡ Ok records)
HasRecords false plan places records = records_by (defined plan) places ≡ Ok records

-- Why there are none.
abbrev pub IsRecordFault : Bool → Plan → List ℕ → LinkFault → Type 0
IsRecordFault true plan places fault =
    (fault ≡ link.Memory)
    ⊎ (HasReadFault plan fault
    ⊎ ((types : Types) × IsRead (types_bytes plan.object (types_found plan.object)) types × MemoryOr (records_by (typed plan types) places) fault))
IsRecordFault false plan places fault = MemoryOr (records_by (defined plan) places) fault
