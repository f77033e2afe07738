-- What ran of the programs of a file, over its tests.
use Rattle.std.specs.Prelude.{ℕ, ◌≡◌, Bool, true, false, List, [], ◌∷◌, ◌++◌, codes, decimal, filter, Option, Some, None, Ok, Err}
use Rattle.std.specs.Borrow.{Bor}
use Rattle.std.specs.Option.{option_or}
use Rattle.bpf_isa.specs.Programs.{Checked}
use Rattle.bpf_steps.specs.State.{State}
use Rattle.bpf_cover.specs.Coverage.{Covered, covered, table_text}
use Rattle.bpf_cover.specs.Runs.{steps_of}
use Rattle.bpf_cover.specs.Sources.{AreRecords}
use Rattle.bpf_cover.specs.Tracefiles.{record_text}
use Rattle.bpf_text.specs.LineTable.{IsLineTable}
use Rattle.counted_io.specs.Lines.{lines}
use Rattle.bpf_suite.specs.Benches.{shares_program}
use Rattle.bpf_suite.specs.Faults.{has_part}
use Rattle.bpf_suite.specs.Files.{with_shared}
use Rattle.bpf_suite.specs.Outcomes.{Comes, Outcome}
use Rattle.bpf_suite.specs.Tests.{body_for, has_listing, is_named, limit, limited, program, program_line, setting}
use Rattle.bpf_suite.specs.declared.cover.CoverForm.{CoverForm}
use Rattle.bpf_suite.specs.declared.cover.CoverForm.TheVariants.{Tables, Tracefile}
use Rattle.bpf_suite.specs.declared.kind.Part.TheVariants as part
use Rattle.bpf_suite.specs.declared.section.Section.{Section}

-- A test with a program of its own.
abbrev pub has_program : List Section → Bool
has_program own = has_part part.Program own

-- Where tests stand before their first step, or why they are refused: what they come to if they may take none.
abbrev pub AreBegun : List (List Section) → List Outcome → Type 0
AreBegun [] outcomes = outcomes ≡ []
AreBegun (test ∷ tests) [] = ⊥
AreBegun (test ∷ tests) (outcome ∷ outcomes) = Comes (limited 0 (setting test)) outcome × AreBegun tests outcomes

-- The steps that they take from there.
abbrev pub steps_from : ℕ → Outcome → List State
steps_from limit (Ok x) = steps_of limit x
steps_from limit (Err refusal) = []

abbrev pub steps_in : List (List Section) → List Outcome → List State
steps_in [] outcomes = []
steps_in (test ∷ tests) [] = []
steps_in (test ∷ tests) (outcome ∷ outcomes) = steps_from (limit test) outcome ++ steps_in tests outcomes

-- The program of the first that isn't refused. (Others that share it have the same instructions.)
abbrev pub program_by : Option Checked → Outcome → Option Checked
program_by found (Ok x) = option_or found (Some x.program)
program_by found (Err refusal) = found

abbrev pub program_in : Option Checked → List Outcome → Option Checked
program_in found [] = found
program_in found (outcome ∷ outcomes) = program_in (program_by found outcome) outcomes

-- What is found of a program: what ran of it by all these steps. Nothing, where all tests of it are refused.
abbrev pub IsFound : Option Checked → List State → Option Covered → Type 0
IsFound None xs found = (found ≡ None) × (xs ≡ [])
IsFound (Some program) xs found = found ≡ Some (covered program xs)

abbrev pub IsFoundBy : List (List Section) → Option Covered → Type 0
IsFoundBy tests found = (outcomes : List Outcome) × AreBegun tests outcomes × IsFound (program_in None outcomes) (steps_in tests outcomes) found

-- The records of a program in a tracefile, by the sections among which it stands: those of the files of its source, if they have a table of its
-- places there; else that of its listing, by its lines in the file of tests. Of other programs none are known.
abbrev pub unlined_text : ℕ → List ℕ
unlined_text line = codes "# the program in line " ++ decimal line ++ codes " is no listing: it has no lines here\n"

abbrev pub IsRecordOf : Bool → List ℕ → List Section → Covered → List ℕ → Type 0
IsRecordOf true file sections c text =
    (table : List ℕ) × IsLineTable (program sections) table × (text ≡ record_text file (program_line sections) (lines table) c.marks)
IsRecordOf false file sections c text = text ≡ unlined_text (program_line sections)

abbrev pub AreRecordsOf : Bool → List ℕ → List Section → Covered → List ℕ → Type 0
AreRecordsOf true file sections c text = AreRecords c.marks (body_for part.Lines sections) text
AreRecordsOf false file sections c text = IsRecordOf (has_listing sections) file sections c text

-- What ran of the program that stands among sections, in either form; nothing where nothing is found. And the same over the tests that have it.
abbrev pub Tells : CoverForm → List Section → Covered → List ℕ → Type 0
Tells Tables sections c text = text ≡ table_text (program_line sections) c
Tells (Tracefile file) sections c text = AreRecordsOf (has_part part.Lines sections) file.now sections c text

abbrev pub TellsFound : CoverForm → List Section → Option Covered → List ℕ → Type 0
TellsFound form sections None text = text ≡ []
TellsFound form sections (Some c) text = Tells form sections c text

abbrev pub CoversProgram : CoverForm → List Section → List (List Section) → List ℕ → Type 0
CoversProgram form sections tests text = (found : Option Covered) × IsFoundBy tests found × TellsFound form sections found text

-- The same of the programs that tests have alone, each among the test's own sections.
abbrev pub CoversEach : CoverForm → List Section → List (List Section) → List ℕ → Type 0
CoversEach form shared [] text = text ≡ []
CoversEach form shared (own ∷ others) text =
    (one more : List ℕ) × CoversProgram form own ((own ++ shared) ∷ []) one × CoversEach form shared others more × (text ≡ one ++ more)

-- What ran of all programs of tests, which have these sections of their own: first of that which tests share.
pub record Covers (form : CoverForm) (shared : List Section) (own : List (List Section)) (text : List ℕ) : Type 0 where
  pub front : List ℕ
  pub back : List ℕ
  pub sharing : CoversProgram form shared (with_shared shared (filter shares_program own)) front
  pub alone : CoversEach form shared (filter has_program own) back
  pub whole : text ≡ front ++ back

-- The own sections of the tests of a name; of all where none is named.
abbrev pub own_named : Option (Bor (List ℕ)) → List Section → List (List Section) → List (List Section)
own_named None shared own = own
own_named (Some name) shared own = filter (λ o. is_named name.now (o ++ shared)) own

-- Scaffolding: no public contract cites what follows. What a test adds that goes on from an outcome, for at most so many steps; one
-- of the shared program, by its own sections; and a test from its beginning on.
abbrev pub Notes : ℕ → Outcome → Option Covered → Option Covered → Type 0
Notes limit outcome old new = (program : Option Checked) (xs : List State) → IsFound program xs old
    → IsFound (program_by program outcome) (xs ++ steps_from limit outcome) new

abbrev pub AddsSharing : List Section → List Section → Option Covered → Option Covered → Type 0
AddsSharing shared own old new = (done : List (List Section)) → IsFoundBy (with_shared shared (filter shares_program done)) old
    → IsFoundBy (with_shared shared (filter shares_program (done ++ own ∷ []))) new

abbrev pub Finds : List Section → Option Covered → Option Covered → Type 0
Finds test old new = (outcome : Outcome) × Comes (limited 0 (setting test)) outcome × Notes (limit test) outcome old new
