-- Maps as a section of tests lists them.
use Rattle.std.specs.Prelude.{ℕ, List, ◌++◌, codes, decimal}
use Rattle.std.specs.List.{join_by}
use Rattle.bpf_isa.specs.declared.maps.MapShape.{MapShape}

-- A map: its value size, an x, its entries.
abbrev pub shape_text : MapShape → List ℕ
shape_text shape = decimal shape.value_size ++ codes "x" ++ decimal shape.entries

-- Maps with a comma between two.
abbrev pub maps_text : List MapShape → List ℕ
maps_text shapes = join_by shape_text (codes ",") shapes
