-- The shape of a map that is defined in the section `.maps`, as libbpf reads it (parse_btf_map_def): by the type of the variable of its name.
use Rattle.std.specs.Prelude.{ℕ, zero, suc, ◌+◌, ◌*◌, ◌==◌, nat_le, nat_lt, Bool, ◌&&◌, ◌||◌, if◌then◌else◌, List, length, codes, Option, Some, None, Result, Ok, Err}
use Rattle.bpf_isa.specs.Words.{u32_at}
use Rattle.bpf_isa.specs.declared.maps.MapShape.{MapShape}
use Rattle.bpf_btf.specs.declared.maps.MapDescription.{MapDescription}
use Rattle.bpf_isa.specs.declared.fault.MapFault.TheVariants.{ValueSize, Entries, Total}
use Rattle.bpf_btf.specs.declared.fault.BtfFault.{BtfFault}
use Rattle.bpf_btf.specs.declared.fault.BtfFault.TheVariants.{NoMap, NoStruct, NoNumber, NoSize, TwoSizes, Kind, KeySize, Limits, LongName}
use Rattle.bpf_btf.specs.declared.layout.MemberEntry.{MemberEntry}
use Rattle.bpf_btf.specs.Layout.{is_called, array_entry, member_entry}
use Rattle.bpf_btf.specs.Faults.{provided, after}
use Rattle.bpf_btf.specs.Types.{Types, start_of, type_of}
use Rattle.bpf_btf.specs.Sizes.{resolved, size_of}
use Rattle.bpf_isa.specs.Maps.{longest_value, most_entries, most_map_bytes}

-- The last number below n that passes a test.
abbrev pub last_below : (ℕ → Bool) → ℕ → Option ℕ
last_below test zero = None
last_below test (suc n) = if test n then Some n else last_below test n

-- What follows what was found, or the fault.
abbrev pub found : {A B : Type 0} → Option A → BtfFault → (A → Result B BtfFault) → Result B BtfFault
found None fault next = Err fault
found (Some value) fault next = next value

-- The section of maps: the last type of kind DATASEC, 15, that is called `.maps`; found is how many types stand before it.
abbrev pub is_maps : Types → ℕ → Bool
is_maps types id = ((type_of types id).kind == 15) && is_called types.strings (type_of types id).name (codes ".maps")

abbrev pub is_maps_at : Types → ℕ → Bool
is_maps_at types i = is_maps types (i + 1)

abbrev pub maps_section : Types → Option ℕ
maps_section types = last_below (is_maps_at types) (length types.starts)

-- The i-th variable of a section, struct btf_var_secinfo, begins with the number of a type. Its offset is for the linker to fill in: in objects it is 0.
abbrev pub variable_at : Types → ℕ → ℕ → ℕ
variable_at types section i = u32_at types.bytes (start_of types section + 12 + 12 * i)

-- The variable of a name: a type of kind VAR, 14.
abbrev pub is_variable : Types → List ℕ → ℕ → Bool
is_variable types name id = ((type_of types id).kind == 14) && is_called types.strings (type_of types id).name name

abbrev pub is_variable_at : Types → List ℕ → ℕ → ℕ → Bool
is_variable_at types name section i = is_variable types name (variable_at types section i)

abbrev pub variable_of : Types → List ℕ → ℕ → Option ℕ
variable_of types name section = last_below (is_variable_at types name section) (type_of types section).count

-- The struct that defines a map, STRUCT, 4: the type of its variable.
abbrev pub struct_of : Types → ℕ → Result ℕ BtfFault
struct_of types variable =
    let id = resolved types (type_of types variable).of in provided ((type_of types id).kind == 4) NoStruct (Ok id)

abbrev pub definition_of : Types → List ℕ → Result ℕ BtfFault
definition_of types name =
    found (maps_section types) NoMap (λ before.
    found (variable_of types name (before + 1)) NoMap (λ i.
    struct_of types (variable_at types (before + 1) i)))

-- The member of a struct by its index, and the index of the last one of a name.
abbrev pub member_at : Types → ℕ → ℕ → MemberEntry
member_at types definition i = member_entry types.bytes (start_of types definition + 12 + 12 * i)

abbrev pub member_of : Types → ℕ → List ℕ → Option ℕ
member_of types definition name =
    last_below (λ i. is_called types.strings (member_at types definition i).name name) (type_of types definition).count

-- What a pointer, PTR, 2, points to.
abbrev pub pointed : Types → ℕ → Option ℕ
pointed types id = let entry = type_of types (resolved types id) in if entry.kind == 2 then Some entry.of else None

-- A number is written as a pointer to an array, ARRAY, 3: it is the count of that.
abbrev pub count_of : Types → Option ℕ → Result ℕ BtfFault
count_of types None = Err NoNumber
count_of types (Some id) = provided ((type_of types id).kind == 3) NoNumber (Ok (array_entry types.bytes (start_of types id + 12)).count)

-- The number that a member gives, 0 where there is none of the name.
abbrev pub number_with : Types → ℕ → Option ℕ → Result ℕ BtfFault
number_with types definition None = Ok 0
number_with types definition (Some i) = count_of types (pointed types (member_at types definition i).of)

abbrev pub number_of : Types → ℕ → List ℕ → Result ℕ BtfFault
number_of types definition name = number_with types definition (member_of types definition name)

-- A type is written as a pointer to it: what counts is its size.
abbrev pub known_size : Option ℕ → Result ℕ BtfFault
known_size None = Err NoSize
known_size (Some size) = Ok size

abbrev pub target_size : Types → Option ℕ → Result ℕ BtfFault
target_size types None = Err NoSize
target_size types (Some id) = known_size (size_of types id)

-- The size of the type that a member gives, 0 where there is none of the name.
abbrev pub size_with : Types → ℕ → Option ℕ → Result ℕ BtfFault
size_with types definition None = Ok 0
size_with types definition (Some i) = target_size types (pointed types (member_at types definition i).of)

abbrev pub size_at : Types → ℕ → List ℕ → Result ℕ BtfFault
size_at types definition name = size_with types definition (member_of types definition name)

-- A size may be given as a number and by a type, where both say the same. 0 says nothing.
abbrev pub one_size : ℕ → ℕ → Result ℕ BtfFault
one_size number size =
    if number == 0 then Ok size else provided ((size == 0) || (number == size)) TwoSizes (Ok number)

abbrev pub size_by : Types → ℕ → List ℕ → List ℕ → Result ℕ BtfFault
size_by types definition number name =
    after (number_of types definition number) (λ a. after (size_at types definition name) (λ b. one_size a b))

-- What a struct says of a map of any kind: its kind, the sizes of its keys and values, and how many entries it has at most. 0 is what isn't said.
abbrev pub described_by : Types → ℕ → Result MapDescription BtfFault
described_by types definition =
    after (number_of types definition (codes "type")) (λ kind.
    after (size_by types definition (codes "key_size") (codes "key")) (λ key.
    after (size_by types definition (codes "value_size") (codes "value")) (λ value.
    after (number_of types definition (codes "max_entries")) (λ entries.
    Ok (record { kind = kind; key_size = key; value_size = value; entries = entries })))))

-- What is said of the map of a name, of at most 255 bytes.
abbrev pub map_description : Types → List ℕ → Result MapDescription BtfFault
map_description types name = provided (nat_le (length name) 255) LongName (after (definition_of types name) (described_by types))

-- Array maps: BPF_MAP_TYPE_ARRAY, 2, and BPF_MAP_TYPE_PERCPU_ARRAY, 6, of which the machine has the values of its one processor.
abbrev pub is_array : ℕ → Bool
is_array kind = (kind == 2) || (kind == 6)

-- The shape, if the machine may have it: the limits of `IsShape` of bpf_isa, in the order of their numbers.
abbrev pub limited : ℕ → ℕ → Result MapShape BtfFault
limited value entries =
    provided (nat_lt 0 value && nat_le value longest_value) (Limits ValueSize)
    (provided (nat_lt 0 entries && nat_le entries most_entries) (Limits Entries)
    (provided (nat_le (value * entries) most_map_bytes) (Limits Total)
    (Ok (record { value_size = value; entries = entries }))))

-- What a struct says: the kind before all, so that a hash is refused as one, then the sizes. Its other members say nothing of the shape.
abbrev pub sizes_of : Types → ℕ → Result MapShape BtfFault
sizes_of types definition =
    after (size_by types definition (codes "key_size") (codes "key")) (λ key.
    provided (key == 4) KeySize
    (after (size_by types definition (codes "value_size") (codes "value")) (λ value.
    after (number_of types definition (codes "max_entries")) (λ entries.
    limited value entries))))

abbrev pub shape_by : Types → ℕ → Result MapShape BtfFault
shape_by types definition =
    after (number_of types definition (codes "type")) (λ kind. provided (is_array kind) (Kind kind) (sizes_of types definition))

-- The shape of the map of a name. That has at most 255 bytes: it is compared with the name of each variable.
abbrev pub map_shape : Types → List ℕ → Result MapShape BtfFault
map_shape types name = provided (nat_le (length name) 255) LongName (after (definition_of types name) (shape_by types))

-- The type of the values of the map of a name: what the member `value` of its definition points to, where there is one.
abbrev pub pointed_by : Types → ℕ → Option ℕ → Option ℕ
pointed_by types definition None = None
pointed_by types definition (Some i) = pointed types (member_at types definition i).of

abbrev pub value_of : Types → ℕ → Option ℕ
value_of types definition = pointed_by types definition (member_of types definition (codes "value"))

abbrev pub value_by : Types → Result ℕ BtfFault → Option ℕ
value_by types (Ok definition) = value_of types definition
value_by types (Err fault) = None

abbrev pub value_type : Types → List ℕ → Option ℕ
value_type types name = if nat_le (length name) 255 then value_by types (definition_of types name) else None
