-- What `load` prints of a program: its size, and its maps. bpfdb's own choice.
use Rattle.std.specs.Prelude.{ℕ, ◌≡◌, ◌==◌, ◌<◌, ◌&&◌, Bool, true, false, List, [], ◌∷◌, ◌++◌, Option, Some, None, is_some, count_by, codes, decimal, length, slice_get}
use Rattle.std.specs.Str.{bytes_eq}
use Rattle.std.specs.Option.{option_map_or}
use Rattle.bpf_isa.specs.Programs.{Checked}
use Rattle.bpf_isa.specs.declared.maps.MapShape.{MapShape}
use Rattle.bpf_link.specs.Names.{built, short_at}
use Rattle.bpf_load.specs.Targets.{object_of}
use Rattle.bpf_load.specs.declared.loading.LinkedObject.{LinkedObject}
use Rattle.bpf_load.specs.declared.program.Loaded.{Loaded}
use Rattle.bpf_steps.specs.Platform.{map_address}
use Rattle.bpfdb_script.specs.Shown.{shown}
use Rattle.counted_io.specs.Writing.{hexadecimal}
use Rattle.bpfdb_jobs.specs.MapLines.{shape_text}

-- How many instructions, and in how many slots, as `check` prints it, too.
unfoldable pub check_line : Checked → List ℕ
check_line code =
    codes "ok " ++ decimal (count_by is_some code.insns) ++ codes " instructions in " ++ decimal (length code.insns) ++ codes " slots\n"

-- A map: its number, its shape, the address of its first byte, and its name, if it has one.
abbrev pub behind_address : List ℕ → List ℕ
behind_address [] = []
behind_address (byte ∷ name) = codes " " ++ shown (byte ∷ name)

abbrev pub map_row : ℕ → MapShape → List ℕ → List ℕ
map_row number shape name = codes "map " ++ decimal number ++ codes ": " ++ shape_text shape ++ codes " at " ++ hexadecimal (map_address number)
    ++ behind_address name ++ codes "\n"

-- The name that stands at its place in the object; words and listings have none.
abbrev pub name_in : Option LinkedObject → ℕ → List ℕ
name_in None number = []
name_in (Some linked) number = option_map_or (λ at. short_at (object_of linked.sources) at) (slice_get linked.program.names.items number) []

abbrev pub name_of : Loaded → ℕ → List ℕ
name_of loaded number = name_in loaded.object number

-- Its maps, in the order of their numbers.
abbrev pub row_of : Loaded → ℕ → List ℕ
row_of loaded number = option_map_or (λ shape. map_row number shape (name_of loaded number)) (slice_get loaded.program.maps number) []

abbrev pub with_row : Loaded → ℕ → List ℕ → List ℕ
with_row loaded number text = text ++ row_of loaded number

abbrev pub map_rows : Loaded → List ℕ
map_rows loaded = built (with_row loaded) (length loaded.program.maps)

abbrev pub program_text : Loaded → List ℕ
program_text loaded = check_line loaded.program ++ map_rows loaded

-- No map of one program is another one, by the size of its values or its name, than that of its number in the second; or this is the first number of such a map. Each
-- has at most 16, and one that the other program lacks is no other one.
abbrev pub are_same : Option MapShape → Option MapShape → Bool → Bool
are_same (Some one) (Some another) named = one.value_size == another.value_size && named
are_same one another named = true

abbrev pub same_map : Loaded → Loaded → ℕ → Bool
same_map one another number =
    are_same (slice_get one.program.maps number) (slice_get another.program.maps number) (bytes_eq (name_of one number) (name_of another number))

abbrev pub AreSameMaps : Loaded → Loaded → Type 0
AreSameMaps one another = (number : ℕ) → number < 16 → same_map one another number ≡ true

abbrev pub IsOtherMap : Loaded → Loaded → ℕ → Type 0
IsOtherMap one another number = (same_map one another number ≡ false) × ((before : ℕ) → before < number → same_map one another before ≡ true)
