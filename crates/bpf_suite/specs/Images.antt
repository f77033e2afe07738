-- What cells make of maps, as runs of bytes: a machine that is opened and gets these is as one that gets the cells.
use Rattle.std.specs.Prelude.{ℕ, ◌≡◌, ◌≤◌, ◌-◌, ◌+◌, ◌*◌, ◌==◌, if◌then◌else◌, List, [], ◌∷◌, ◌++◌, drop, length, replicate, slice_get, slice_range, take, Option, Some, None, IfSome, IsSome}
use Rattle.std.specs.List.{list_all}
use Rattle.std.specs.Option.{option_map_or}
use Rattle.bpf_isa.specs.Maps.{AreMaps}
use Rattle.bpf_isa.specs.Programs.{Checked}
use Rattle.bpf_isa.specs.declared.maps.MapShape.{MapShape}
use Rattle.bpf_machine.specs.Edits.{edited}
use Rattle.bpf_steps.specs.Platform.{context_limit, frame_count, frame_len, map_base}
use Rattle.bpf_steps.specs.Regions.{index_in, map_len, maps_from, maps_len, paste, run_at}
use Rattle.bpf_steps.specs.State.{State, initial}
use Rattle.bpf_machine.specs.declared.edit.Edit.TheVariants as edit
use Rattle.bpf_suite.specs.Asks.{AreAskedOf, least_of}
use Rattle.bpf_suite.specs.Outcomes.{IsProgramOf, missing, with_cells}
use Rattle.bpf_suite.specs.declared.asks.Ask.{Ask}
use Rattle.bpf_suite.specs.declared.cells.Cell.{Cell}
use Rattle.bpf_suite.specs.declared.image.Image.{Image}
use Rattle.bpf_suite.specs.declared.image.Run.{Run}
use Rattle.bpf_suite.specs.declared.setting.Setting.{Setting}

-- A machine with runs of bytes, put in one after another.
abbrev pub with_runs : List Run → State → State
with_runs [] x = x
with_runs (run ∷ runs) x = with_runs runs (edited x (edit.Bytes run.address run.bytes))

-- Runs lead where cells lead, on each machine whose maps have all of these.
abbrev pub Lead : List Cell → List Run → Type 0
Lead cells runs = (code : Checked) (context : List ℕ) → AreMaps code.maps → missing code.maps cells ≡ None
    → length context ≤ context_limit → with_runs runs (initial code context) ≡ with_cells cells (initial code context)

-- An image of cells: what they ask of maps, and runs that lead where they lead, if these are known.
pub record IsImage (cells : List Cell) (image : Image) : Type 0 where
  pub asked : AreAskedOf cells image.asks.items
  pub runs : IfSome image.runs (Lead cells)

-- They are known where maps have all cells.
abbrev pub IsKnown : List Cell → List MapShape → Option (List Run) → Type 0
IsKnown cells maps runs = missing maps cells ≡ None → IsSome runs

-- An image for a program of a test, by which it runs.
pub record IsImageFor (t : Setting) (code : Checked) (image : Image) : Type 0 where
  pub program : IsProgramOf t code
  pub made : IsImage t.cells image
  pub known : IsKnown t.cells code.maps image.runs

-- The bytes of all maps of a machine, side by side, and such bytes with runs put in.
abbrev pub map_bytes : State → List ℕ
map_bytes x = drop (x.memory.context_len + frame_len * frame_count) x.memory.bytes

abbrev pub pasted : List MapShape → List Run → List ℕ → List ℕ
pasted maps [] bytes = bytes
pasted maps (run ∷ runs) bytes =
    pasted maps runs (option_map_or (λ at. paste bytes at run.bytes) (index_in (maps_from 0 maps) run.address (length run.bytes)) bytes)

-- Runs lie in maps.
abbrev pub AreIn : List Run → Type 0
AreIn [] = Unit {0}
AreIn (run ∷ runs) = (map_base ≤ run.address) × (1 ≤ length run.bytes) × AreIn runs

abbrev pub ArePresent : List MapShape → List Run → Type 0
ArePresent maps [] = Unit {0}
ArePresent maps (run ∷ runs) =
    ((j : ℕ) × (index_in (maps_from 0 maps) run.address (length run.bytes) ≡ Some j)) × ArePresent maps runs

-- What is asked of maps, none of which has more bytes than a map may have.
pub record AreShort (asks : List Ask) : Type 0 where
  pub few : length asks ≤ 17
  pub short : (map : ℕ) (ask : Ask) → slice_get asks map ≡ Some ask → map_len (least_of ask) ≤ 65536

-- A machine shows these bytes at the addresses of maps, which may be less than its own.
pub record Shows (x : State) (maps : List MapShape) (bytes : List ℕ) : Type 0 where
  pub long : length bytes ≡ maps_len maps
  pub short : (map : ℕ) (shape : MapShape) → slice_get maps map ≡ Some shape → map_len shape ≤ 65536
  pub read : (a n j : ℕ) → map_base ≤ a → 1 ≤ n → index_in (maps_from 0 maps) a n ≡ Some j
      → run_at x.memory a n ≡ Some (slice_range bytes j (j + n))

-- Runs hold the first n bytes of maps, and nothing else that isn't zero.
pub record Holds (maps : List MapShape) (bytes : List ℕ) (runs : List Run) (n : ℕ) : Type 0 where
  pub placed : AreIn runs
  pub present : ArePresent maps runs
  pub held : pasted maps runs (replicate (maps_len maps) 0) ≡ take n bytes ++ replicate (maps_len maps - n) 0

-- Runs hold all bytes of maps that aren't zero.
pub record AreAll (maps : List MapShape) (bytes : List ℕ) (runs : List Run) : Type 0 where
  pub placed : AreIn runs
  pub present : ArePresent maps runs
  pub held : pasted maps runs (replicate (maps_len maps) 0) ≡ bytes

-- Bytes at an address as a run, unless all of them are zero.
abbrev pub run_of : ℕ → List ℕ → List Run
run_of address bytes = if list_all (λ b. b == 0) bytes then [] else record { address = address; bytes = bytes } ∷ []
