-- The lines that tell of an object that was linked. bpfdb's own choice.
use Rattle.std.specs.Prelude.{ℕ, List, [], ◌∷◌, ◌++◌, Option, Some, None, codes, decimal, length, slice_index}
use Rattle.std.specs.List.{join_by}
use Rattle.bpf_isa.specs.declared.maps.MapShape.{MapShape}
use Rattle.bpf_link.specs.Names.{built, short_at}
use Rattle.bpfdb_script.specs.Shown.{shown}

-- A map as `--maps` names it: its value size, an x, its entries.
abbrev pub shape_text : MapShape → List ℕ
shape_text shape = decimal shape.value_size ++ codes "x" ++ decimal shape.entries

-- Maps as `--maps` names them, with a comma between two.
abbrev pub maps_text : List MapShape → List ℕ
maps_text shapes = join_by shape_text (codes ",") shapes

-- The line of its maps, if it has some.
abbrev pub maps_line : List MapShape → List ℕ
maps_line [] = []
maps_line (first ∷ rest) = codes "--maps " ++ maps_text (first ∷ rest) ++ codes "\n"

-- The line of a map's name, by its number; none where it has no name.
abbrev pub name_line : ℕ → List ℕ → List ℕ
name_line number [] = []
name_line number (byte ∷ name) = codes "map " ++ decimal number ++ codes ": " ++ shown (byte ∷ name) ++ codes "\n"

-- The lines of the names that stand at places of an object, in the order of the maps' numbers.
abbrev pub with_name : List ℕ → List ℕ → ℕ → List ℕ → List ℕ
with_name object places number text = text ++ name_line number (short_at object (slice_index places number))

abbrev pub name_lines : List ℕ → List ℕ → List ℕ
name_lines object places = built (with_name object places) (length places)

-- They follow the line of the maps; where that isn't told there are none.
abbrev pub names_behind : List MapShape → List ℕ → List ℕ → List ℕ
names_behind [] object places = []
names_behind (first ∷ rest) object places = name_lines object places

-- A line of how many there are, if that is to be told.
abbrev pub count_line : List ℕ → Option ℕ → List ℕ
count_line text None = []
count_line text (Some count) = text ++ decimal count ++ codes "\n"

-- Its maps, their names, how many calls of helpers are answered, and how many fields are left where they were compiled.
unfoldable pub linked_text : List ℕ → List MapShape → List ℕ → Option ℕ → Option ℕ → List ℕ
linked_text object shapes places answered fields =
    maps_line shapes ++ names_behind shapes object places ++ count_line (codes "calls answered by --helper: ") answered
    ++ count_line (codes "fields left as compiled: ") fields

-- What is told of an object: its maps, their names by where these stand in it, how many calls are answered, and how many fields are left; of none of
-- them nothing.
abbrev pub linked_told : List ℕ → List MapShape → List ℕ → Option ℕ → Option ℕ → Option (List ℕ)
linked_told object [] places None None = None
linked_told object shapes places answered fields = Some (linked_text object shapes places answered fields)
