-- What `test` comes to where it shows a part of a test, and where it runs tests.
use Rattle.std.specs.Prelude.{ℕ, ◌≡◌, ◌<◌, ⊤, List, [], ◌∷◌, Option, Some, None, length}
use Rattle.bpf_suite.specs.Outcomes.{HasWords}
use Rattle.bpf_suite.specs.Shown.{IsWordsFault, options_text, script_text}
use Rattle.bpf_suite.specs.Tests.{context, has_listing, program}
use Rattle.bpf_suite.specs.declared.section.Section.{Section}
use Rattle.bpf_suite.specs.declared.shown.WordsFault.TheVariants as words
use Rattle.bpfdb_faults.specs.Streams.{Gets, Loses, Told}
use Rattle.bpfdb_faults.specs.Faults.{line_of}
use Rattle.bpfdb_jobs.specs.Refusals.{RefusesTests}
use Rattle.bpfdb_jobs.specs.Streams.{Outputs}
use Rattle.bpfdb_jobs.specs.Suites.{AreTestsOf, EndsRun}
use Rattle.bpfdb_faults.specs.declared.fault.JobFault.{JobFault}
use Rattle.bpfdb_faults.specs.declared.fault.JobFault.TheVariants as fault
use Rattle.bpfdb_jobs.specs.declared.job.Job.{Job}
use Rattle.bpfdb_faults.specs.declared.refusal.JobRefusal.{JobRefusal}
use Rattle.bpfdb_faults.specs.declared.refusal.JobRefusal.TheVariants.{Listing, ManyTests}
use Rattle.bpfdb_options.specs.declared.ask.TestAsk.{TestAsk}
use Rattle.bpfdb_options.specs.declared.test_part.TestPart.{TestPart}
use Rattle.bpfdb_options.specs.declared.test_part.TestPart.TheVariants.{Program, Context, Options, Script}

-- The bytes that are shown of a test: what its verdict is about.
abbrev pub Shows : TestPart → List Section → List ℕ → Type 0
Shows Program test bytes = HasWords (has_listing test) (program test) bytes
Shows Context test bytes = bytes ≡ context test
Shows Options test bytes = bytes ≡ options_text test
Shows Script test bytes = bytes ≡ script_text test

-- Why they aren't: the program's listing isn't one, or memory ran out.
abbrev pub HidesPart : TestPart → List Section → JobFault → Type 0
HidesPart part test (fault.Refused (Listing why)) = (part ≡ Program) × IsWordsFault test (words.Listing why)
HidesPart part test fault.Memory = ⊤
HidesPart part test fault = ⊥

-- Why a part isn't shown, besides what keeps tests from being run: more than one is asked for, or the one has no words.
abbrev pub RefusesShown : TestAsk → Job → TestPart → JobRefusal → Type 0
RefusesShown ask job part ManyTests = (asked : List (List Section)) × AreTestsOf ask job asked × (1 < length asked)
RefusesShown ask job part (Listing why) =
    (test : List Section) × AreTestsOf ask job (test ∷ []) × HidesPart part test (fault.Refused (Listing why))
RefusesShown ask job part refusal = RefusesTests ask.only job refusal

-- How a job of `test` ends that shows a part: it was shown; or it was refused, or memory ran out before, and nothing was written; or standard
-- output failed, which got a beginning.
pub data EndsShown {W E : Type 0} (part : TestPart) (ask : TestAsk) (job : Job) (s : Outputs W E) (status : ℕ) : Type 0 where
  Shown : (test : List Section) (bytes : List ℕ) → AreTestsOf ask job (test ∷ []) → Shows part test bytes → Gets s.output (Some bytes)
      → s.errors.new ≡ s.errors.old → status ≡ 0 → EndsShown part ask job s status
  Refused : (refusal : JobRefusal) → RefusesShown ask job part refusal → s.output.new ≡ s.output.old → Told s.errors (line_of (fault.Refused refusal))
      → status ≡ 2 → EndsShown part ask job s status
  Exhausted : s.output.new ≡ s.output.old → Told s.errors (line_of fault.Memory) → status ≡ 2 → EndsShown part ask job s status
  Lost : (test : List Section) (bytes : List ℕ) → AreTestsOf ask job (test ∷ []) → Shows part test bytes → Loses s.output (Some bytes)
      → Told s.errors (line_of fault.Output) → status ≡ 2 → EndsShown part ask job s status

-- How a job of `test` ends, by the part that is to be shown, if there is one.
abbrev pub EndsTest : {W E : Type 0} → Option TestPart → TestAsk → Job → Outputs W E → ℕ → Type 0
EndsTest None ask job s status = EndsRun ask.is_tracefile ask.covers ask job s status
EndsTest (Some part) ask job s status = EndsShown part ask job s status
