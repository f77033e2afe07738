-- Where the names of a program's maps stand in the file.
use Rattle.std.specs.Prelude.{◌≡◌, ℕ, List, ◌++◌, Ok, map}
use Rattle.bpf_link.specs.declared.plan.Plan.{Plan}
use Rattle.bpf_link.specs.Data.{data_of}
use Rattle.bpf_link.specs.Links.{maps_of}
use Rattle.bpf_link.specs.MapTypes.{name_place, symbol_of}
use Rattle.bpf_link.specs.Objects.{section_at}
use Rattle.bpf_link.specs.Sections.{section_place}
use Rattle.bpf_link.specs.Shapes.{IsInOrder}

-- The name of a map of the object is that of the last symbol for its place; the file's end, where there is none.
abbrev pub map_name : Plan → ℕ → ℕ
map_name plan place = name_place plan (symbol_of plan place)

-- The name of a map that a section of data becomes is that of the section.
abbrev pub data_name : Plan → ℕ → ℕ
data_name plan section = section_place plan.object (section_at plan.object section)

-- The names of all maps, in the order of their numbers: the object's own as they stand in their section, and those of data after them.
abbrev pub AreNames : Plan → List ℕ → List ℕ → List ℕ → Type 0
AreNames plan maps taken names =
    (ordered : List ℕ) × IsInOrder maps ordered × (names ≡ map (map_name plan) ordered ++ map (data_name plan) taken)

-- The names of the maps of a plan.
pub record HasNames (plan : Plan) (names : List ℕ) : Type 0 where
  pub maps : List ℕ
  pub taken : List ℕ
  pub found : maps_of plan ≡ Ok maps
  pub referred : data_of plan ≡ Ok taken
  pub named : AreNames plan maps taken names
