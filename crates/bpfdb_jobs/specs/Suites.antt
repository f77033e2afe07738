-- What `test` comes to.
use Rattle.std.specs.Prelude.{ℕ, ◌≡◌, ◌<◌, Bool, true, false, List, ◌++◌, Option, Some, None, Result, Ok, Err, length}
use Rattle.counted_io.specs.Counted.{Tally}
use Rattle.bpf_suite.specs.Covers.{Covers, own_named}
use Rattle.bpf_suite.specs.Faults.{file_fault}
use Rattle.bpf_suite.specs.Files.{own_tests, sections, tests, until_name}
use Rattle.bpf_suite.specs.Outcomes.{Outcome}
use Rattle.bpf_suite.specs.Reports.{AreOutcomes, BreaksOff, all_pass, plan, tests_text}
use Rattle.bpf_suite.specs.declared.cover.CoverForm.{CoverForm}
use Rattle.bpf_suite.specs.declared.cover.CoverForm.TheVariants.{Tables, Tracefile}
use Rattle.bpf_suite.specs.declared.fault.FileFault.{FileFault}
use Rattle.bpf_suite.specs.declared.fault.FileFault.TheVariants as file
use Rattle.bpf_suite.specs.declared.report.SuiteFault.{SuiteFault}
use Rattle.bpf_suite.specs.declared.report.SuiteFault.TheVariants as suite
use Rattle.bpf_suite.specs.Tests.{chosen}
use Rattle.bpf_suite.specs.declared.section.Section.{Section}
use Rattle.std.specs.Borrow.{Bor}
use Rattle.bpfdb_faults.specs.Streams.{Gets, Loses, Stream, Told}
use Rattle.bpfdb_faults.specs.Faults.{line_of}
use Rattle.bpfdb_jobs.specs.Refusals.{RefusesTests}
use Rattle.bpfdb_jobs.specs.Streams.{Outputs, behind}
use Rattle.bpfdb_faults.specs.declared.fault.JobFault.{JobFault}
use Rattle.bpfdb_faults.specs.declared.fault.JobFault.TheVariants as fault
use Rattle.bpfdb_jobs.specs.declared.job.Job.{Job}
use Rattle.bpfdb_options.specs.declared.ask.TestAsk.{TestAsk}
use Rattle.bpfdb_faults.specs.declared.refusal.JobRefusal.{JobRefusal}
use Rattle.bpfdb_faults.specs.declared.refusal.JobRefusal.TheVariants.{Tests}

-- The report on tests of a file, and the exit status: 1 where one fails.
abbrev pub report : List ℕ → List (List Section) → List Outcome → List ℕ
report file ts outcomes = plan (length ts) ++ tests_text file 1 ts outcomes

abbrev pub status_of : Bool → ℕ
status_of true = 0
status_of false = 1

-- The tests that are asked for: all, or those of a name, one at least.
abbrev pub AreAsked : Option (Bor (List ℕ)) → List (List Section) → List (List Section) → Type 0
AreAsked None all asked = asked ≡ all
AreAsked (Some name) all asked = (asked ≡ chosen name.now all) × (0 < length asked)

-- The tests that are run, of a file without a fault.
pub record AreTestsOf (ask : TestAsk) (job : Job) (asked : List (List Section)) : Type 0 where
  pub sound : file_fault job.file.now ≡ None
  pub asked_for : AreAsked ask.only (tests (sections job.file.now)) asked

-- What ran of the programs, over these tests, as tables or as a tracefile.
abbrev pub CoversTests : CoverForm → TestAsk → Job → List ℕ → Type 0
CoversTests form ask job text = let s = sections job.file.now in
    Covers form (until_name s) (own_named ask.only (until_name s) (own_tests s)) text

-- Why the tests of a file aren't run.
abbrev pub fault_of_file : FileFault → JobFault
fault_of_file (file.Line why line) = fault.Refused (Tests why line)
fault_of_file file.Memory = fault.Memory

-- Why a run of tests breaks off.
abbrev pub fault_of_suite : SuiteFault → JobFault
fault_of_suite suite.Memory = fault.Memory
fault_of_suite suite.Write = fault.Output

-- What a report comes to: tests were run, and reported on; or their file was refused, or the name that is asked for, or memory ran out before,
-- and nothing was written; or memory ran out at a test, or the writer failed, and what stands are the plan and the reports on the tests before, or
-- a beginning of them.
pub data Reports {W : Type 0} (ask : TestAsk) (job : Job) (writer : Stream W) (result : Result ℕ JobFault) : Type 0 where
  Reported : (asked : List (List Section)) (outcomes : List Outcome) → AreTestsOf ask job asked → AreOutcomes asked outcomes
      → Gets writer (Some (report job.name.now asked outcomes)) → result ≡ Ok (status_of (all_pass asked outcomes)) → Reports ask job writer result
  Refused : (refusal : JobRefusal) → RefusesTests ask.only job refusal → writer.new ≡ writer.old → result ≡ Err (fault.Refused refusal)
      → Reports ask job writer result
  Exhausted : writer.new ≡ writer.old → result ≡ Err fault.Memory → Reports ask job writer result
  BrokenOff : (why : SuiteFault) (asked : List (List Section)) → AreTestsOf ask job asked
      → BreaksOff writer.bytes why writer.old writer.new (plan (length asked)) job.name.now 1 asked → result ≡ Err (fault_of_suite why)
      → Reports ask job writer result

-- How a job of `test` ends that reports: with the status of its report; or it tells why there is none, and the status is 2.
pub data EndsTests {W E : Type 0} (ask : TestAsk) (job : Job) (s : Outputs W E) (status : ℕ) : Type 0 where
  Done : (reported : ℕ) → Reports ask job s.output (Ok reported) → s.errors.new ≡ s.errors.old → status ≡ reported → EndsTests ask job s status
  Undone : (why : JobFault) → Reports ask job s.output (Err why) → Told s.errors (line_of why) → status ≡ 2 → EndsTests ask job s status

-- How a job ends that reported on tests, with this status, and then tells what ran: that was written; or memory ran out, and no more was written;
-- or standard output failed, which got a beginning.
pub data EndsTold {W E : Type 0} (form : CoverForm) (ask : TestAsk) (job : Job) (reported : ℕ) (s : Outputs W E) (status : ℕ) : Type 0 where
  Covered : (text : List ℕ) → CoversTests form ask job text → Gets s.output (Some text) → s.errors.new ≡ s.errors.old → status ≡ reported
      → EndsTold form ask job reported s status
  Unfound : s.output.new ≡ s.output.old → Told s.errors (line_of fault.Memory) → status ≡ 2 → EndsTold form ask job reported s status
  Lost : (text : List ℕ) → CoversTests form ask job text → Loses s.output (Some text) → Told s.errors (line_of fault.Output) → status ≡ 2
      → EndsTold form ask job reported s status

-- How a job of `test` ends that tells in tables what ran: they stand behind the report.
pub data EndsCovered {W E : Type 0} (ask : TestAsk) (job : Job) (s : Outputs W E) (status : ℕ) : Type 0 where
  Behind : (middle : Tally W) (reported : ℕ) → Reports ask job (record s.output { new = middle }) (Ok reported)
      → EndsTold Tables ask job reported (record s { output = record s.output { old = middle } }) status → EndsCovered ask job s status
  Uncovered : (why : JobFault) → Reports ask job s.output (Err why) → Told s.errors (line_of why) → status ≡ 2 → EndsCovered ask job s status

-- How one ends that tells it as a tracefile over the file of this name: that is all of standard output, and the report stands on standard error.
pub data EndsTraced {W E : Type 0} (ask : TestAsk) (job : Job) (s : Outputs W E) (status : ℕ) : Type 0 where
  Beside : (file : Bor (List ℕ)) (middle : Tally E) (reported : ℕ) → file.now ≡ job.name.now → Reports ask job (record s.errors { new = middle }) (Ok reported)
      → EndsTold (Tracefile file) ask job reported (behind middle s) status → EndsTraced ask job s status
  Untraced : (why : JobFault) (middle : Tally E) → Reports ask job (record s.errors { new = middle }) (Err why)
      → Told (record s.errors { old = middle }) (line_of why) → s.output.new ≡ s.output.old → status ≡ 2 → EndsTraced ask job s status

-- By the options: a tracefile, or tables, or neither.
abbrev pub EndsRun : {W E : Type 0} → Bool → Bool → TestAsk → Job → Outputs W E → ℕ → Type 0
EndsRun true covers ask job s status = EndsTraced ask job s status
EndsRun false true ask job s status = EndsCovered ask job s status
EndsRun false false ask job s status = EndsTests ask job s status
