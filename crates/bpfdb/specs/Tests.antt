-- The file of tests of a plan, whose sections may name files.
use Rattle.std.specs.Prelude.{ℕ, ◌≡◌, ◌+◌, Bool, true, false, if◌then◌else◌, List, ◌++◌, codes, decimal, min, Option, Some, None, ⊤}
use Rattle.bpf_suite.specs.Refusals.{text_of_refusal}
use Rattle.bpfdb_cli.specs.declared.plans.Plan.{Plan}
use Rattle.bpfdb_faults.specs.Faults.{line_of, object_text}
use Rattle.bpfdb_faults.specs.declared.fault.JobFault.TheVariants as job
use Rattle.bpfdb.specs.Files.{World}
use Rattle.bpfdb_files.specs.Reading.{Gives}
use Rattle.bpfdb_files.specs.declared.kinds.FileKind.TheVariants.{Source}
use Rattle.bpfdb_options.specs.declared.ask.Ask.{Ask}
use Rattle.bpfdb_options.specs.declared.ask.Ask.TheVariants.{Test}
use Rattle.bpfdb_options.specs.declared.ask.TestAsk.{TestAsk}
use Rattle.suite_files.specs.Faults.{named_fault}
use Rattle.suite_files.specs.Refused.{IsFilesFault}
use Rattle.suite_files.specs.Replaced.{IsReplaced, linux_of}
use Rattle.suite_files.specs.declared.fault.FilesFault.{FilesFault}
use Rattle.suite_files.specs.declared.fault.FilesFault.TheVariants.{Section, Link, Memory}
use Rattle.suite_files.specs.declared.fault.KeptFault.{KeptFault}
use Rattle.suite_files.specs.declared.place.Place.{Place}
use Rattle.input_texts.specs.Paths.{folder_of}

-- What is asked of tests, if that is asked.
abbrev pub asks_tests : Ask → Option TestAsk
asks_tests (Test ask) = Some ask
asks_tests ask = None

-- Linux's library may be joined to objects by itself where it is wanted, one is known, and it can be read.
abbrev pub library_path : World → Option (List ℕ)
library_path world = if world.wants_linux then world.linux else None

abbrev pub LibraryAt : (List ℕ → Option (List ℕ)) → Option (List ℕ) → Option (List ℕ) → Type 0
LibraryAt bytes_at None library = library ≡ None
LibraryAt bytes_at (Some path) None = ⊤
LibraryAt bytes_at (Some path) (Some library) = Gives Source (bytes_at path) (Some library)

abbrev pub IsLibrary : World → Option (List ℕ) → Type 0
IsLibrary world library = LibraryAt world.bytes_at (library_path world) library

-- Names of files begin in the folder of FILE; and a tracefile is by the lines of what objects come from.
pub record IsPlaceOf (file : List ℕ) (ask : TestAsk) (linux : Option (List ℕ)) (place : Place) : Type 0 where
  pub folder : place.folder.now ≡ folder_of file
  pub anywhere : place.anywhere ≡ ask.anywhere
  pub linux_is : linux_of place ≡ linux
  pub lines : place.lines ≡ ask.is_tracefile

-- FILE for the plan's job: of `test` with what sections name in their place; else as it is.
abbrev pub TestsIn : Option TestAsk → World → Plan → List ℕ → List ℕ → Type 0
TestsIn (Some ask) world plan of_file bytes = (linux : Option (List ℕ)) × (place : Place) × IsLibrary world linux × IsPlaceOf plan.file.now ask linux place
    × IsReplaced world.bytes_at place of_file bytes
TestsIn None world plan of_file bytes = bytes ≡ of_file

abbrev pub IsTestsFor : World → Plan → List ℕ → List ℕ → Type 0
IsTestsFor world plan of_file bytes = TestsIn (asks_tests plan.ask) world plan of_file bytes

-- Why there is none.
pub record IsUnreplaced (world : World) (plan : Plan) (of_file : List ℕ) (fault : FilesFault) : Type 0 where
  pub ask : TestAsk
  pub asked : asks_tests plan.ask ≡ Some ask
  pub linux : Option (List ℕ)
  pub library : IsLibrary world linux
  pub place : Place
  pub is_place : IsPlaceOf plan.file.now ask linux place
  pub why : IsFilesFault world.bytes_at place of_file fault

-- Which object it is, by the line of its section.
abbrev pub object_end : Option ℕ → ℕ → List ℕ
object_end None line = codes " (the object in line " ++ decimal line ++ codes ")\n"
object_end (Some index) line =
    codes " (object " ++ decimal (min (index + 1) 18446744073709551615) ++ codes " with the one in line " ++ decimal line ++ codes ")\n"

-- The line of an object of which no program is made.
abbrev pub link_line : KeptFault → ℕ → List ℕ
link_line kept line = object_text kept.fault kept.name.items ++ object_end kept.index line

-- The line of each fault.
abbrev pub files_line : FilesFault → List ℕ
files_line (Section fault line) =
    text_of_refusal (codes "refused T") (named_fault fault).0 (codes " at line ") (Some line) (named_fault fault).1 ++ codes "\n"
files_line (Link kept line) = link_line kept line
files_line Memory = line_of job.Memory
