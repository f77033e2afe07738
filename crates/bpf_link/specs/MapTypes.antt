-- The shapes of the maps of a section `.maps`, by the section `.BTF` of the object.
use Rattle.std.specs.Prelude.{ℕ, ◌+◌, ◌==◌, nat_le, nat_lt, Bool, true, false, ◌&&◌, if◌then◌else◌, List, [], ◌∷◌, ◌++◌, Option, Some, None, Result, Ok, Err, length, slice_index, slice_range, codes}
use Rattle.std.specs.List.{before_first}
use Rattle.bpf_isa.specs.declared.maps.MapShape.{MapShape}
use Rattle.bpf_btf.specs.Maps.{last_below, map_shape}
use Rattle.bpf_btf.specs.Types.{Types}
use Rattle.bpf_btf.specs.declared.fault.BtfFault.{BtfFault}
use Rattle.bpf_link.specs.declared.fault.LinkFault.{LinkFault}
use Rattle.bpf_link.specs.declared.fault.LinkFault.TheVariants as link
use Rattle.bpf_link.specs.declared.layout.SectionHeader.{SectionHeader}
use Rattle.bpf_link.specs.declared.layout.SymbolEntry.{SymbolEntry}
use Rattle.bpf_link.specs.declared.plan.Plan.{Plan}
use Rattle.bpf_link.specs.declared.sections.Found.{Found}
use Rattle.bpf_link.specs.declared.sections.Found.TheVariants.{Nothing, Only, Several}
use Rattle.bpf_link.specs.Objects.{Elf, section_at}
use Rattle.bpf_link.specs.Sections.{found, is_named}
use Rattle.bpf_link.specs.Plans.{after, steps, bytes_of, symbol_place}
use Rattle.bpf_link.specs.Tables.{symbol_at}
use Rattle.bpf_link.specs.Patches.{is_map}

-- The maps stand in `.maps`, where only BTF tells what they are.
abbrev pub are_in_maps : Plan → Bool
are_in_maps plan =
    nat_lt plan.maps (length plan.object.sections) && is_named plan.object (section_at plan.object plan.maps) (codes ".maps")

-- The section of a name.
abbrev pub found_named : Elf → List ℕ → Found
found_named object name = found (λ section. is_named object section name) object.sections

-- The section of BTF, and its bytes. One that doesn't lie in the file, or isn't the only one, has none.
abbrev pub types_found : Elf → Found
types_found object = found_named object (codes ".BTF")

abbrev pub section_bytes : Elf → SectionHeader → List ℕ
section_bytes object section = if nat_le (section.offset + section.size) (length object.bytes) then bytes_of object section else []

abbrev pub types_bytes : Elf → Found → List ℕ
types_bytes object Nothing = []
types_bytes object (Only i) = section_bytes object (section_at object i)
types_bytes object Several = []

-- Those of the only section of a name, where an object was opened.
abbrev pub named_bytes : Result Elf LinkFault → List ℕ → List ℕ
named_bytes (Ok object) name = types_bytes object (found_named object name)
named_bytes (Err fault) name = []

abbrev pub is_something : Found → Bool
is_something Nothing = false
is_something (Only i) = true
is_something Several = true

-- There are maps, and BTF tells their shapes.
abbrev pub is_typed : Plan → List ℕ → Bool
is_typed plan maps = nat_lt 0 (length maps) && (are_in_maps plan && is_something (types_found plan.object))

-- A name stands at a place in the file, up to a zero.
abbrev pub is_zero_byte : ℕ → Bool
is_zero_byte byte = byte == 0

abbrev pub name_from : List ℕ → ℕ → List ℕ
name_from bytes at = before_first is_zero_byte (slice_range bytes at (length bytes))

-- The last symbol that names the map at a place, and where its name stands.
abbrev pub is_map_at : Plan → ℕ → SymbolEntry → Bool
is_map_at plan place symbol = is_map plan.maps symbol && (symbol.value == place)

abbrev pub symbol_of : Plan → ℕ → Option ℕ
symbol_of plan place = last_below (λ i. is_map_at plan place (symbol_at plan.symbols i)) (length plan.symbols)

abbrev pub name_place : Plan → Option ℕ → ℕ
name_place plan None = length plan.object.bytes
name_place plan (Some i) = symbol_place plan (symbol_at plan.symbols i)

-- The shape of the map at a place: that of the variable of its name.
abbrev pub told_of_map : ℕ → Result MapShape BtfFault → Result MapShape LinkFault
told_of_map at (Ok shape) = Ok shape
told_of_map at (Err fault) = Err (link.Map at fault)

abbrev pub typed_by_name : List ℕ → Types → ℕ → Result MapShape LinkFault
typed_by_name bytes types at = told_of_map at (map_shape types (name_from bytes at))

abbrev pub typed_at : Plan → Types → ℕ → Result MapShape LinkFault
typed_at plan types place = typed_by_name plan.object.bytes types (name_place plan (symbol_of plan place))

-- The shapes of the maps at places, or the fault of the first that has none.
abbrev pub with_typed : Plan → Types → List ℕ → ℕ → List MapShape → Result (List MapShape) LinkFault
with_typed plan types places k shapes =
    after (typed_at plan types (slice_index places k)) (λ shape. Ok (shapes ++ shape ∷ []))

abbrev pub typed_shapes : Plan → Types → List ℕ → Result (List MapShape) LinkFault
typed_shapes plan types places = steps (with_typed plan types places) [] (length places)
