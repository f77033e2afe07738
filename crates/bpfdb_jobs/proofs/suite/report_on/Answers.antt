use Rattle.std.proofs.Common.{ℕ, ◌≡◌, None, Err, Ok, refl, ap, ◌∙◌}
use Rattle.bpf_suite.specs.Faults.{IsFaultOf, file_fault}
use Rattle.bpf_suite.specs.Files.{sections, tests}
use Rattle.bpf_suite.specs.declared.fault.FileFault.{FileFault}
use Rattle.bpf_suite.specs.declared.fault.FileFault.TheVariants as file
use Rattle.bpfdb_faults.specs.Streams.{Stream}
use Rattle.bpfdb_jobs.specs.Suites.{BrokenOff, Exhausted, Refused, Reported, Reports, fault_of_file, status_of}
use Rattle.bpfdb_jobs.specs.declared.job.Job.{Job}
use Rattle.bpfdb_options.specs.declared.ask.TestAsk.{TestAsk}
use Rattle.bpfdb_jobs.specs.Refusals.{LacksName}
use Rattle.bpfdb_faults.specs.declared.fault.JobFault.TheVariants as fault
use Rattle.bpfdb_faults.specs.declared.refusal.JobRefusal.{JobRefusal}
use Rattle.bpfdb_faults.specs.declared.refusal.JobRefusal.TheVariants.{OtherMap, OtherObject, Kind, Maps, Listing, Load, Opening, Open, Journal, OtherRun, TraceLine, Script, What, Goal, Object, Functions, Tests, NoTest, ManyTests, NoPlace}
use Rattle.bpfdb_jobs.proofs.suite.report_on.Goals as goal

-- a file of which no test is run
not-run : {W : Type 0} {writer : Stream W} (ask : TestAsk) (job : Job) (why : FileFault) → writer.new ≡ writer.old → IsFaultOf job.file.now why
    → Reports ask job writer (Err (fault_of_file why))
not-run ask job (file.Line fault line) same is = Refused (Tests fault line) is same refl
not-run ask job file.Memory same is = Exhausted same refl

pub returns-in-Err-clause-reports : goal.returns-in-Err-clause-reports
returns-in-Err-clause-reports g c = rw c.fault_of_file.ensures (not-run c.args.ask.now c.args.job.now c.in-Err.fault refl c.in-Err.ensures.err)

-- a name that no test of a sound file has
no-test : {W : Type 0} {writer : Stream W} (ask : TestAsk) (job : Job) (refusal : JobRefusal) → writer.new ≡ writer.old → file_fault job.file.now ≡ None
    → LacksName ask.only (tests (sections job.file.now)) refusal → Reports ask job writer (Err (fault.Refused refusal))
no-test ask job (NoTest name) same sound lacks = Refused (NoTest name) (sound, lacks) same refl
no-test ask job (Maps fault) same sound lacks = absurd lacks
no-test ask job (Listing fault) same sound lacks = absurd lacks
no-test ask job (Load fault) same sound lacks = absurd lacks
no-test ask job (Opening fault) same sound lacks = absurd lacks
no-test ask job (Open fault) same sound lacks = absurd lacks
no-test ask job (Journal fault) same sound lacks = absurd lacks
no-test ask job (OtherRun fault) same sound lacks = absurd lacks
no-test ask job (TraceLine fault line) same sound lacks = absurd lacks
no-test ask job (Script refusal) same sound lacks = absurd lacks
no-test ask job (What fault) same sound lacks = absurd lacks
no-test ask job (Goal fault) same sound lacks = absurd lacks
no-test ask job (NoPlace name) same sound lacks = absurd lacks
no-test ask job (Object fault name) same sound lacks = absurd lacks
no-test ask job (Functions fault index name) same sound lacks = absurd lacks
no-test ask job (Tests fault line) same sound lacks = absurd lacks
no-test ask job ManyTests same sound lacks = absurd lacks
no-test ask job (Kind why) same sound lacks = absurd lacks
no-test ask job (OtherMap number) same sound lacks = absurd lacks
no-test ask job (OtherObject why name) same sound lacks = absurd lacks

pub returns-in-Err-asked_tests-clause-reports : goal.returns-in-Err-asked_tests-clause-reports
returns-in-Err-asked_tests-clause-reports g c =
    let s = c.in-Ok.ensures.ok in
    let ts : c.in-Ok-tests.tests ≡ tests (sections c.args.job.now.file.now) = c.in-Ok-tests.ensures ∙ ap tests s.0 in
    no-test c.args.ask.now c.args.job.now c.in-Err-asked_tests.refusal refl s.1 (rw ts at c.in-Err-asked_tests.ensures.none)

pub returns-in-Ok-run_suite-clause-reports : goal.returns-in-Ok-run_suite-clause-reports
returns-in-Ok-run_suite-clause-reports g c =
    let s = c.in-Ok.ensures.ok in
    let ts : c.in-Ok-tests.tests ≡ tests (sections c.args.job.now.file.now) = c.in-Ok-tests.ensures ∙ ap tests s.0 in
    let o = rw c.as_bytes.ensures.value at c.in-Ok-run_suite.ensures.ok in
    Reported c.in-Ok-asked_tests.asked o.0 record { sound = s.1; asked_for = rw ts at c.in-Ok-asked_tests.ensures.asked } o.1 (o.3.ok, o.3.same)
    (ap (λ (status : ℕ). Ok status) (c.status_of.ensures.value ∙ ap status_of o.2))

pub returns-clause-reports : goal.returns-clause-reports
returns-clause-reports g c =
    let s = c.in-Ok.ensures.ok in
    let ts : c.in-Ok-tests.tests ≡ tests (sections c.args.job.now.file.now) = c.in-Ok-tests.ensures ∙ ap tests s.0 in
    rw c.fault_of_suite.ensures (BrokenOff c.in-Err-run_suite.why c.in-Ok-asked_tests.asked
    record { sound = s.1; asked_for = rw ts at c.in-Ok-asked_tests.ensures.asked } (rw c.as_bytes.ensures.value at c.in-Err-run_suite.ensures.err) refl)
