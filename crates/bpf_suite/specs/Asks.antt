-- What lines about cells ask of maps: which is the first whose cell isn't there, whatever the shapes of the maps.
use Rattle.std.specs.Prelude.{ℕ, ◌≡◌, ◌+◌, Bool, false, ◌==◌, ◌&&◌, not, nat_lt, min, if◌then◌else◌, List, [], ◌∷◌, length, filter_map, map, slice_get, Option, Some, None, IfSome}
use Rattle.std.specs.Option.{option_map_or}
use Rattle.bpf_isa.specs.Maps.{IsShape}
use Rattle.bpf_isa.specs.declared.maps.MapShape.{MapShape}
use Rattle.bpf_machine.specs.Edits.{has_cell}
use Rattle.bpf_suite.specs.Cells.{cell_of, value_of}
use Rattle.bpf_suite.specs.Outcomes.{missing}
use Rattle.bpf_suite.specs.declared.asks.Ask.{Ask}
use Rattle.bpf_suite.specs.declared.asks.Spot.{Spot}
use Rattle.bpf_suite.specs.declared.cells.Cell.{Cell}
use Rattle.bpf_suite.specs.declared.cells.CellLine.{CellLine}
use Rattle.bpf_suite.specs.declared.refusal.Refusal.{Refusal}
use Rattle.bpf_suite.specs.declared.refusal.Refusal.TheVariants.{NoCell}

-- The map that a line is about. No table has a map 16, so that number stands for all from there on.
abbrev pub map_of : CellLine → ℕ
map_of line = min line.map 16

-- A line gives a value to a cell that a map of this shape lacks.
abbrev pub lacking : Option MapShape → CellLine → Bool
lacking shape line = option_map_or (λ value. not (has_cell shape line.index (length value))) (value_of line) false

abbrev pub lacking_in : ℕ → Option MapShape → CellLine → Bool
lacking_in map shape line = (map_of line == map) && lacking shape line

-- It is about one of the first n of these maps, which lacks its cell.
abbrev pub lacking_below : List MapShape → ℕ → CellLine → Bool
lacking_below maps n line = nat_lt (map_of line) n && lacking (slice_get maps (map_of line)) line

-- The first of lines that passes a test, and its place, counted from i on.
abbrev pub spot_of : ℕ → CellLine → Spot
spot_of place line = record { place = place; map = line.map; index = line.index }

abbrev pub first_from : (CellLine → Bool) → ℕ → List CellLine → Option Spot
first_from passes i [] = None
first_from passes i (line ∷ lines) = if passes line then Some (spot_of i line) else first_from passes (i + 1) lines

-- How many entries a map of this shape has for values of a size: none where its values have another one.
abbrev pub entries_for : ℕ → Option MapShape → ℕ
entries_for size None = 0
entries_for size (Some shape) = if shape.value_size == size then shape.entries else 0

-- By the number of these entries the first line whose cell a map lacks, where it lacks one.
abbrev pub AreFirsts : List CellLine → ℕ → ℕ → List Spot → Type 0
AreFirsts lines map size firsts =
    (shape : Option MapShape) → IfSome shape IsShape
    → slice_get firsts (entries_for size shape) ≡ first_from (lacking_in map shape) 0 lines

-- What lines ask of all maps; and cells, by lines that give them their values.
pub record AreAsked (lines : List CellLine) (asks : List Ask) : Type 0 where
  pub all : length asks ≡ 17
  pub each : (map : ℕ) (ask : Ask) → slice_get asks map ≡ Some ask → AreFirsts lines map ask.size ask.firsts.items

pub record AreAskedOf (cells : List Cell) (asks : List Ask) : Type 0 where
  pub lines : List CellLine
  pub given : filter_map cell_of lines ≡ cells
  pub asked : AreAsked lines asks

-- The least maps that have all these cells.
abbrev pub least_of : Ask → MapShape
least_of ask = record { value_size = ask.size; entries = length ask.firsts.items }

abbrev pub least_maps : List Ask → List MapShape
least_maps asks = map least_of asks

-- Why cells don't get their values: the first that isn't there.
abbrev pub IsMissing : List MapShape → List Cell → Option Refusal → Type 0
IsMissing maps cells None = missing maps cells ≡ None
IsMissing maps cells (Some refusal) =
    (cell : Cell) × (missing maps cells ≡ Some cell) × (refusal ≡ NoCell cell.map cell.index)

-- How many bytes the first value has behind one of n bytes; and up to how many entries a map lacks a cell that gets n.
abbrev pub size_with : List Spot → ℕ → ℕ → ℕ
size_with [] size n = n
size_with (spot ∷ spots) size n = size

abbrev pub most_lacking : ℕ → ℕ → ℕ → ℕ
most_lacking size n index = if n == size then min index 4096 else 4096

-- The one that comes first.
abbrev pub sooner : Option Spot → Option Spot → Option Spot
sooner None other = other
sooner (Some spot) None = Some spot
sooner (Some spot) (Some other) = if nat_lt other.place spot.place then Some other else Some spot
