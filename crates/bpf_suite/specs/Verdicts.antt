-- When a test passes.
use Rattle.std.specs.Prelude.{ℕ, Bool, true, false, not, ◌==◌, ◌&&◌, ◌||◌, nat_lt, List, [], ◌∷◌, ◌++◌, codes, decimal, drop, filter, length, Option, Some, None, Ok, Err, if◌then◌else◌, slice_get, unwrap_or}
use Rattle.std.specs.List.{starts_with}
use Rattle.std.specs.Option.{option_and_then, option_map_or}
use Rattle.bpf_isa.specs.declared.maps.MapShape.{MapShape}
use Rattle.bpf_steps.specs.Platform.{cell_address, context_base}
use Rattle.bpf_steps.specs.Regions.{run_at}
use Rattle.bpf_steps.specs.State.{State, register}
use Rattle.bpf_entries.specs.declared.status.Fault.{Fault}
use Rattle.bpf_entries.specs.declared.status.Fault.TheVariants as fault
use Rattle.bpf_entries.specs.declared.status.Status.{Status}
use Rattle.bpf_entries.specs.declared.status.Status.TheVariants as status
use Rattle.bpf_suite.specs.Bodies.{fits, solid}
use Rattle.bpf_suite.specs.Cells.{cell_lines}
use Rattle.bpf_suite.specs.Faults.{has_part}
use Rattle.bpf_suite.specs.Kinds.{word_of}
use Rattle.bpf_suite.specs.Outcomes.{Outcome, outcome_text}
use Rattle.bpf_suite.specs.Tests.{body_for, context, expected, section_for}
use Rattle.bpf_suite.specs.declared.cells.CellLine.{CellLine}
use Rattle.bpf_suite.specs.declared.expected.Expectation.{Expectation}
use Rattle.bpf_suite.specs.declared.kind.Kind.{Kind}
use Rattle.bpf_suite.specs.declared.kind.Kind.TheVariants as kind
use Rattle.bpf_suite.specs.declared.kind.Part.TheVariants as part
use Rattle.bpf_suite.specs.declared.section.Section.{Section}

-- What stands in front of a text, unless that is empty.
abbrev pub lead : List ℕ → List ℕ → List ℕ
lead front [] = []
lead front (b ∷ s) = front

-- What is expected, as it is printed: its word, and what stands in its section.
abbrev pub expected_text : Expectation → List ℕ
expected_text e = word_of e.kind ++ lead (codes " ") e.text ++ e.text

abbrev pub begins : List ℕ → List ℕ → Bool
begins s front = starts_with (λ a b. a == b) s front

-- A place or a text follows, or nothing.
abbrev pub is_stop : List ℕ → Bool
is_stop [] = true
is_stop (b ∷ s) = begins (b ∷ s) (codes " at ") || begins (b ∷ s) (codes ": ")

-- A text is printed, with or without a place and a text behind it.
abbrev pub tells : List ℕ → List ℕ → Bool
tells text told = begins told text && is_stop (drop (length text) told)

-- The program exited with a number in r0.
abbrev pub has_exited : Status → Bool
has_exited status.Running = false
has_exited status.Exited = true
has_exited (status.Faulted fault) = false

abbrev pub results : ℕ → Outcome → Bool
results n (Ok x) = has_exited x.status && register x 0 == n
results n (Err refusal) = false

-- A fault's kind, as it is printed; and a fault as it is printed, with this in place of its kind and its number.
abbrev pub kind_of_fault : Fault → List ℕ
kind_of_fault (fault.Access address) = codes " access"
kind_of_fault (fault.Token token) = codes " token"
kind_of_fault fault.Depth = codes " depth"

abbrev pub fault_text : List ℕ → ℕ → List ℕ
fault_text middle pc = codes "fault" ++ middle ++ codes " at " ++ decimal pc

-- A text tells of the fault at a slot by its kind alone, or tells of any.
abbrev pub tells_fault : List ℕ → Status → ℕ → Bool
tells_fault text (status.Faulted f) pc = tells text (fault_text (kind_of_fault f) pc) || tells text (fault_text [] pc)
tells_fault text _ pc = false

abbrev pub tells_kind : List ℕ → Outcome → Bool
tells_kind text (Ok x) = tells_fault text x.status x.pc
tells_kind text (Err refusal) = false

-- A result is compared as a number, any other outcome as it is printed; of a fault the number, or number and kind, may be left out.
abbrev pub tells_outcome : Expectation → Outcome → Bool
tells_outcome e outcome = tells (expected_text e) (outcome_text outcome)

abbrev pub meets_as : Kind → Expectation → Outcome → Bool
meets_as kind.Result e outcome = option_map_or (λ n. results n outcome) e.number false
meets_as kind.Fault e outcome = tells_outcome e outcome || tells_kind (expected_text e) outcome
meets_as _ e outcome = tells_outcome e outcome

abbrev pub meets : Expectation → Outcome → Bool
meets e outcome = meets_as e.kind e outcome

abbrev pub is_met : List Section → Outcome → Bool
is_met test outcome = option_map_or (λ e. meets e outcome) (expected test) false

-- The bytes of a context of n bytes, where the program has ended.
abbrev pub context_after : ℕ → State → List ℕ
context_after n x = if n == 0 then [] else unwrap_or (run_at x.memory context_base n) []

-- All of them fit the digits of a pattern.
abbrev pub leaves : List ℕ → ℕ → Outcome → Bool
leaves digits n (Ok x) = fits digits (context_after n x)
leaves digits n (Err refusal) = false

abbrev pub is_left : List Section → Outcome → Bool
is_left test outcome = option_map_or (λ section. leaves (solid section.body) (length (context test)) outcome) (section_for part.After test) true

-- How many bytes a value of a map has, where the map has a cell of this index.
abbrev pub size_in : ℕ → MapShape → Option ℕ
size_in index shape = if nat_lt index shape.entries then Some shape.value_size else None

abbrev pub cell_size : State → ℕ → ℕ → Option ℕ
cell_size x map index = option_and_then (size_in index) (slice_get x.program.maps map)

-- The value of a cell, None where there is no such cell.
abbrev pub cell_value : State → ℕ → ℕ → Option (List ℕ)
cell_value x map index = option_and_then (λ n. run_at x.memory (cell_address map index n) n) (cell_size x map index)

-- A cell holds what a line says.
abbrev pub holds : State → CellLine → Bool
holds x line = option_map_or (λ value. fits (solid line.digits) value) (cell_value x line.map line.index) false

-- The lines that don't hold where the program has ended, and those of a test.
abbrev pub wrong_lines : List CellLine → Outcome → List CellLine
wrong_lines lines (Ok x) = filter (λ line. not (holds x line)) lines
wrong_lines lines (Err refusal) = []

abbrev pub wrong_cells : List Section → Outcome → List CellLine
wrong_cells test outcome = wrong_lines (cell_lines (body_for part.CellsAfter test)) outcome

-- None is wrong, and where the program is refused nothing is said of cells.
abbrev pub cells_left : List Section → Outcome → Bool
cells_left test (Ok x) = length (wrong_cells test (Ok x)) == 0
cells_left test (Err refusal) = not (has_part part.CellsAfter test)

-- A test passes where its program comes to what is expected, and leaves the context and the cells that are expected.
abbrev pub passes : List Section → Outcome → Bool
passes test outcome = is_met test outcome && is_left test outcome && cells_left test outcome
