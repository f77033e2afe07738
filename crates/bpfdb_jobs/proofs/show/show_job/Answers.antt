use Rattle.std.proofs.Common.{ℕ, zero, suc, ◌≡◌, ◌≢◌, ◌<◌, List, [], ◌∷◌, Option, Some, None, length, refl, sym, ap, subst, ◌∙◌, arith}
use Rattle.std.specs.Borrow.{Bor}
use Rattle.bpf_suite.specs.Faults.{IsFaultOf, file_fault}
use Rattle.bpf_suite.specs.Files.{sections, tests}
use Rattle.bpf_suite.specs.declared.fault.FileFault.{FileFault}
use Rattle.bpf_suite.specs.declared.fault.FileFault.TheVariants as file
use Rattle.bpf_suite.specs.declared.section.Section.{Section}
use Rattle.bpf_suite.proofs.Tests.{tests-some}
use Rattle.bpfdb_faults.specs.Streams.{Told}
use Rattle.bpfdb_faults.specs.Faults.{line_of}
use Rattle.bpfdb_jobs.specs.Refusals.{LacksName}
use Rattle.bpfdb_jobs.specs.Shown.{EndsShown, Exhausted, Refused}
use Rattle.bpfdb_jobs.specs.Streams.{Outputs}
use Rattle.bpfdb_jobs.specs.Suites.{AreAsked, fault_of_file}
use Rattle.bpfdb_faults.specs.declared.fault.JobFault.TheVariants as fault
use Rattle.bpfdb_jobs.specs.declared.job.Job.{Job}
use Rattle.bpfdb_options.specs.declared.ask.TestAsk.{TestAsk}
use Rattle.bpfdb_faults.specs.declared.refusal.JobRefusal.{JobRefusal}
use Rattle.bpfdb_faults.specs.declared.refusal.JobRefusal.TheVariants.{OtherMap, OtherObject, Kind, Maps, Listing, Load, Opening, Open, Journal, OtherRun, TraceLine, Script, What, Goal, Object, Functions, Tests, NoTest, ManyTests, NoPlace}
use Rattle.bpfdb_options.specs.declared.test_part.TestPart.{TestPart}
use Rattle.bpfdb_jobs.proofs.show.show_job.Goals as goal

-- a file with a fault
not-read : {W E : Type 0} {s : Outputs W E} (part : TestPart) (ask : TestAsk) (job : Job) (why : FileFault) (status : ℕ)
    → s.output.new ≡ s.output.old → IsFaultOf job.file.now why → Told s.errors (line_of (fault_of_file why)) → status ≡ 2
    → EndsShown part ask job s status
not-read part ask job (file.Line why line) status same is told two = Refused (Tests why line) is same told two
not-read part ask job file.Memory status same is told two = Exhausted same told two

pub returns-in-Err-clause-does : goal.returns-in-Err-clause-does
returns-in-Err-clause-does g c =
    not-read c.args.part c.args.ask.now c.args.job.now c.in-Err.fault c.refuse.result refl c.in-Err.ensures.err c.refuse.ensures.told c.refuse.ensures.value

-- a name that no test of a sound file has
no-test : {W E : Type 0} {s : Outputs W E} (part : TestPart) (ask : TestAsk) (job : Job) (refusal : JobRefusal) (status : ℕ) → s.output.new ≡ s.output.old
    → file_fault job.file.now ≡ None → LacksName ask.only (tests (sections job.file.now)) refusal
    → Told s.errors (line_of (fault.Refused refusal)) → status ≡ 2 → EndsShown part ask job s status
no-test part ask job (NoTest name) status same sound lacks told two = Refused (NoTest name) (sound, lacks) same told two
no-test part ask job (Maps fault) status same sound lacks told two = absurd lacks
no-test part ask job (Listing fault) status same sound lacks told two = absurd lacks
no-test part ask job (Load fault) status same sound lacks told two = absurd lacks
no-test part ask job (Opening fault) status same sound lacks told two = absurd lacks
no-test part ask job (Open fault) status same sound lacks told two = absurd lacks
no-test part ask job (Journal fault) status same sound lacks told two = absurd lacks
no-test part ask job (OtherRun fault) status same sound lacks told two = absurd lacks
no-test part ask job (TraceLine fault line) status same sound lacks told two = absurd lacks
no-test part ask job (Script refusal) status same sound lacks told two = absurd lacks
no-test part ask job (What fault) status same sound lacks told two = absurd lacks
no-test part ask job (Goal fault) status same sound lacks told two = absurd lacks
no-test part ask job (NoPlace name) status same sound lacks told two = absurd lacks
no-test part ask job (Object fault name) status same sound lacks told two = absurd lacks
no-test part ask job (Functions fault index name) status same sound lacks told two = absurd lacks
no-test part ask job (Tests fault line) status same sound lacks told two = absurd lacks
no-test part ask job ManyTests status same sound lacks told two = absurd lacks
no-test part ask job (Kind why) status same sound lacks told two = absurd lacks
no-test part ask job (OtherMap number) status same sound lacks told two = absurd lacks
no-test part ask job (OtherObject why name) status same sound lacks told two = absurd lacks

pub returns-in-Err-asked_tests-clause-does : goal.returns-in-Err-asked_tests-clause-does
returns-in-Err-asked_tests-clause-does g c =
    let s = c.in-Ok.ensures.ok in
    let ts : c.in-Ok-tests.tests ≡ tests (sections c.args.job.now.file.now) = c.in-Ok-tests.ensures ∙ ap tests s.0 in
    no-test c.args.part c.args.ask.now c.args.job.now c.in-Err-asked_tests.refusal c.give_up-in-Err-asked_tests.result refl s.1 (rw ts at c.in-Err-asked_tests.ensures.none)
    c.give_up-in-Err-asked_tests.ensures.told c.give_up-in-Err-asked_tests.ensures.value

-- one test at least is asked for
some-asked : (only : Option (Bor (List ℕ))) (s : List Section) (asked : List (List Section)) → AreAsked only (tests s) asked → 0 < length asked
some-asked None s asked are = subst (λ (ts : List (List Section)). 0 < length ts) (sym are) (tests-some s)
some-asked (Some name) s asked are = are.1

above-one : (n : ℕ) → 0 < n → n ≢ 1 → 1 < n
above-one zero some other = absurd (omega (arith, some))
above-one (suc zero) some other = absurd (other refl)
above-one (suc (suc n)) some other = omega arith

pub show_test-requires : goal.show_test-requires
show_test-requires g c =
    let s = c.in-Ok.ensures.ok in
    let ts : c.in-Ok-tests.tests ≡ tests (sections c.args.job.now.file.now) = c.in-Ok-tests.ensures ∙ ap tests s.0 in
    let one : c.in-Ok-asked_tests.asked ≡ c.in-Some.test ∷ [] = c.in-Some.ensures.one in
    record { sound = s.1; asked_for = rw one at (rw ts at c.in-Ok-asked_tests.ensures.asked) }

pub returns-clause-does : goal.returns-clause-does
returns-clause-does g c =
    let s = c.in-Ok.ensures.ok in
    let ts : c.in-Ok-tests.tests ≡ tests (sections c.args.job.now.file.now) = c.in-Ok-tests.ensures ∙ ap tests s.0 in
    let asked = c.in-Ok-asked_tests.asked in
    let are = rw ts at c.in-Ok-asked_tests.ensures.asked in
    let some : 0 < length asked = some-asked c.args.ask.now.only (sections c.args.job.now.file.now) asked are in
    let other : length asked ≢ 1 = c.in-None.ensures.others in
    Refused ManyTests (asked, record { sound = s.1; asked_for = are }, above-one (length asked) some other) refl
    c.give_up-in-None.ensures.told c.give_up-in-None.ensures.value
