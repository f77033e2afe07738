-- The report on tests, in the Test Anything Protocol.
use Rattle.std.specs.Prelude.{ℕ, ◌≡◌, ◌-◌, ◌==◌, Bool, true, false, ◌&&◌, if◌then◌else◌, List, [], ◌∷◌, ◌++◌, codes, decimal, flat_map, length, take, Option, Ok, Err}
use Rattle.std.specs.Option.{option_map_or}
use Rattle.bpf_steps.specs.Platform.{cell_address}
use Rattle.bpf_steps.specs.State.{State}
use Rattle.bpfdb_script.specs.Texts.{text_of_bytes}
use Rattle.counted_io.specs.Counted.{Tally, one_more}
use Rattle.counted_io.specs.Writing.{Writes}
use Rattle.bpf_suite.specs.Bodies.{trimmed}
use Rattle.bpf_suite.specs.Contexts.{context_text}
use Rattle.bpf_suite.specs.Faults.{has_part}
use Rattle.bpf_suite.specs.Outcomes.{Comes, Outcome, outcome_text}
use Rattle.bpf_suite.specs.Shown.{quoted}
use Rattle.bpf_suite.specs.Tests.{expected, first_line, setting, title}
use Rattle.bpf_suite.specs.Verdicts.{cell_size, expected_text, lead, passes, wrong_cells}
use Rattle.bpf_suite.specs.declared.cells.CellLine.{CellLine}
use Rattle.bpf_suite.specs.declared.kind.Part.TheVariants as part
use Rattle.bpf_suite.specs.declared.report.SuiteFault.{SuiteFault}
use Rattle.bpf_suite.specs.declared.report.SuiteFault.TheVariants.{Memory, Write}
use Rattle.bpf_suite.specs.declared.section.Section.{Section}
use Rattle.bpf_suite.specs.declared.values.WrongCells.{WrongCells}

-- How many tests there are.
abbrev pub plan : ℕ → List ℕ
plan n = codes "1.." ++ decimal n ++ codes "\n"

-- What is said of a test that fails.
abbrev pub wanted_outcome : List Section → List ℕ
wanted_outcome test = option_map_or expected_text (expected test) []

abbrev pub also : Bool → List ℕ → List ℕ
also true text = text
also false text = []

unfoldable pub wanted : List Section → List ℕ
wanted test =
    wanted_outcome test ++ also (has_part part.After test) (codes ", and mem-after") ++ also (has_part part.CellsAfter test) (codes ", and map-after")
    ++ codes "\n"

-- What is said of a cell that doesn't hold what is wanted of it: its address and its value, as `x` of the debugger shows them, and the pattern.
abbrev pub value_text : State → ℕ → ℕ → List ℕ
value_text x map index = option_map_or (λ n. text_of_bytes x (cell_address map index n) n) (cell_size x map index) (codes "none\n")

abbrev pub cell_name : CellLine → List ℕ
cell_name line = codes "# cell " ++ decimal line.map ++ codes " " ++ decimal line.index

unfoldable pub cell_text : State → CellLine → List ℕ
cell_text x line =
    cell_name line ++ codes " came: " ++ value_text x line.map line.index ++ cell_name line ++ codes " wanted: " ++ trimmed line.digits ++ codes "\n"

-- A report tells of so many cells at most, and then how many more are wrong.
abbrev pub most_told : ℕ
most_told = 16

abbrev pub more_text : ℕ → List ℕ
more_text n = if n == 0 then [] else codes "# more wrong cells: " ++ decimal n ++ codes "\n"

abbrev pub cells_text : List CellLine → Outcome → List ℕ
cells_text wrong (Ok x) = flat_map (cell_text x) (take most_told wrong) ++ more_text (length wrong - most_told)
cells_text wrong (Err refusal) = []

-- The cells that it tells of, and how many more there are.
pub record AreTold (wrong : List CellLine) (told : WrongCells) : Type 0 where
  pub first : told.told.items ≡ take most_told wrong
  pub more : told.more ≡ length wrong - most_told

-- The line to be typed that makes files of a test's parts and says how it is debugged: by the name of its file, and its own.
unfoldable pub show_line : List ℕ → List ℕ → List ℕ
show_line file name = codes "# debug: bpfdb-show " ++ quoted name ++ codes " " ++ quoted file ++ codes "\n"

unfoldable pub diagnosis : List ℕ → List Section → Outcome → List ℕ
diagnosis file test outcome =
    codes "# the test in line " ++ decimal (first_line test) ++ codes "\n# came: " ++ outcome_text outcome ++ codes "\n# wanted: " ++ wanted test
    ++ context_text test outcome ++ cells_text (wrong_cells test outcome) outcome ++ show_line file (title test)

-- The lines of a test.
abbrev pub verdict_word : Bool → List ℕ
verdict_word true = codes "ok "
verdict_word false = codes "not ok "

abbrev pub verdict_text : Bool → ℕ → List Section → List ℕ
verdict_text passed k test = verdict_word passed ++ decimal k ++ lead (codes " - ") (title test) ++ title test ++ codes "\n"

abbrev pub report_text : List ℕ → Bool → ℕ → List Section → Outcome → List ℕ
report_text file true k test outcome = verdict_text true k test
report_text file false k test outcome = verdict_text false k test ++ diagnosis file test outcome

abbrev pub test_text : List ℕ → ℕ → List Section → Outcome → List ℕ
test_text file k test outcome = report_text file (passes test outcome) k test outcome

-- The lines of a file's tests, the first of which has a number.
abbrev pub tests_text : List ℕ → ℕ → List (List Section) → List Outcome → List ℕ
tests_text file k [] outcomes = []
tests_text file k (test ∷ tests) [] = []
tests_text file k (test ∷ tests) (outcome ∷ outcomes) = test_text file k test outcome ++ tests_text file (one_more k) tests outcomes

-- Whether all pass.
abbrev pub all_pass : List (List Section) → List Outcome → Bool
all_pass [] outcomes = true
all_pass (test ∷ tests) [] = false
all_pass (test ∷ tests) (outcome ∷ outcomes) = passes test outcome && all_pass tests outcomes

-- The outcomes of tests, one each.
abbrev pub AreOutcomes : List (List Section) → List Outcome → Type 0
AreOutcomes [] outcomes = Unit {0}
AreOutcomes (test ∷ tests) [] = ⊥
AreOutcomes (test ∷ tests) (outcome ∷ outcomes) = Comes (setting test) outcome × AreOutcomes tests outcomes

-- What stands of a text where a run of tests breaks off: all of it where memory ran out behind it, a beginning where a write of it failed.
abbrev pub WritesUntil : {T : Type 0} → (T → Option (List ℕ)) → SuiteFault → Tally T → Tally T → List ℕ → Type 0
WritesUntil contents Memory old new text = Writes {A = Unit {0}} {E = SuiteFault} contents old new (Ok tt) text
WritesUntil contents Write old new text = Writes {A = Unit {0}} {E = SuiteFault} contents old new (Err Write) text

-- A run of tests, the first of which has a number, breaks off: behind a text stand the reports on the first ones, which came to these outcomes.
pub record BreaksOff {T : Type 0} (contents : T → Option (List ℕ)) (why : SuiteFault) (old new : Tally T) (front file : List ℕ) (k : ℕ)
    (tests : List (List Section)) : Type 0 where
  pub done : List (List Section)
  pub left : List (List Section)
  pub all : tests ≡ done ++ left
  pub outcomes : List Outcome
  pub come : AreOutcomes done outcomes
  pub written : WritesUntil contents why old new (front ++ tests_text file k done outcomes)

-- A test at which a run breaks off: nothing was written of it, or its report in part.
abbrev pub BreaksAt : {T : Type 0} → (T → Option (List ℕ)) → SuiteFault → Tally T → Tally T → List ℕ → ℕ → List Section → Type 0
BreaksAt contents Memory old new file k test = new ≡ old
BreaksAt contents Write old new file k test =
    (outcome : Outcome) × Comes (setting test) outcome × WritesUntil contents Write old new (test_text file k test outcome)
