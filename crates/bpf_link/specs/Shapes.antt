-- The shapes of an object's maps: by their definitions in its section `maps`, or by BTF.
use Rattle.std.specs.Prelude.{◌≡◌, ◌≢◌, ℕ, ◌+◌, ◌==◌, nat_le, nat_lt, Bool, true, false, ◌&&◌, if◌then◌else◌, List, [], ◌++◌, Ok, Some, length, map, slice_get, Contains, IsPermutation, IsSorted}
use Rattle.std.specs.List.{list_all}
use Rattle.std.specs.Ordering.{nat_cmp}
use Rattle.bpf_isa.specs.declared.maps.MapShape.{MapShape}
use Rattle.bpf_btf.specs.Sections.{IsRead}
use Rattle.bpf_btf.specs.Types.{Types}
use Rattle.bpf_link.specs.declared.layout.MapDefinition.{MapDefinition}
use Rattle.bpf_link.specs.declared.plan.Plan.{Plan}
use Rattle.bpf_link.specs.Layout.{map_definition}
use Rattle.bpf_link.specs.Data.{data_of}
use Rattle.bpf_link.specs.Links.{maps_of, data_shapes}
use Rattle.bpf_link.specs.Patches.{map_number}
use Rattle.bpf_link.specs.MapTypes.{types_found, types_bytes, is_typed, typed_shapes}

-- The definition at a place of the section.
abbrev pub definition_at : List ℕ → ℕ → MapDefinition
definition_at definitions place = map_definition definitions place

-- It lies in the section, and is that of an array: BPF_MAP_TYPE_ARRAY, 2, whose keys have 4 bytes.
abbrev pub is_array : List ℕ → ℕ → Bool
is_array definitions place =
    nat_le (place + 16) (length definitions) && (((definition_at definitions place).kind == 2) && ((definition_at definitions place).key_size == 4))

-- The shape that it gives the map.
abbrev pub shape_at : List ℕ → ℕ → MapShape
shape_at definitions place =
    record { value_size = (definition_at definitions place).value_size; entries = (definition_at definitions place).entries }

-- The shapes of the maps at places of the section. There are none unless each is an array.
abbrev pub shapes_at : List ℕ → List ℕ → List MapShape
shapes_at definitions places =
    if list_all (is_array definitions) places then map (shape_at definitions) places else []

-- Places in ascending order.
pub record IsInOrder (places ordered : List ℕ) : Type 0 where
  pub same : IsPermutation places ordered
  pub ascending : IsSorted nat_cmp ordered

-- The shapes of maps, in the order in which they stand in their section, which is that of their numbers.
abbrev pub AreShapes : List ℕ → List ℕ → List MapShape → Type 0
AreShapes definitions maps shapes = (ordered : List ℕ) × IsInOrder maps ordered × (shapes ≡ shapes_at definitions ordered)

-- So where there are shapes, that of a map stands where its number says.
abbrev pub AreNumbered : List ℕ → List ℕ → List MapShape → Type 0
AreNumbered definitions maps shapes = (place : ℕ) → Contains maps place → shapes ≢ []
    → slice_get shapes (map_number maps place) ≡ Some (shape_at definitions place)

-- The object has maps of its own and their shapes aren't known.
abbrev pub is_unknown : List ℕ → List MapShape → Bool
is_unknown maps own = nat_lt 0 (length maps) && (length own == 0)

-- The shapes of all maps, those of data last. There are none where those of the object's own aren't known.
abbrev pub all_shapes : List ℕ → List MapShape → List MapShape → List MapShape
all_shapes maps own others = if is_unknown maps own then [] else own ++ others

-- The definitions in the section `maps` give the shapes.
pub record AreDefined (definitions maps : List ℕ) (shapes : List MapShape) : Type 0 where
  pub ordered : AreShapes definitions maps shapes
  pub numbered : AreNumbered definitions maps shapes

-- BTF gives those of maps in `.maps`, in the order in which they stand there.
pub record AreTyped (plan : Plan) (maps : List ℕ) (shapes : List MapShape) : Type 0 where
  pub types : Types
  pub read : IsRead (types_bytes plan.object (types_found plan.object)) types
  pub ordered : List ℕ
  pub in_order : IsInOrder maps ordered
  pub told : typed_shapes plan types ordered ≡ Ok shapes

abbrev pub AreOwn : Bool → Plan → List ℕ → List MapShape → Type 0
AreOwn true plan maps shapes = AreTyped plan maps shapes
AreOwn false plan maps shapes = AreDefined plan.definitions maps shapes

-- The shapes of the maps that data become.
abbrev pub AreDataShapes : Plan → List MapShape → Type 0
AreDataShapes plan shapes = (taken : List ℕ) × (data_of plan ≡ Ok taken) × (shapes ≡ data_shapes plan taken)

-- The shapes of the maps of a plan.
pub record HasShapes (plan : Plan) (shapes : List MapShape) : Type 0 where
  pub maps : List ℕ
  pub taken : List ℕ
  pub found : maps_of plan ≡ Ok maps
  pub referred : data_of plan ≡ Ok taken
  pub own : List MapShape
  pub shaped : AreOwn (is_typed plan maps) plan maps own
  pub all : shapes ≡ all_shapes maps own (data_shapes plan taken)
