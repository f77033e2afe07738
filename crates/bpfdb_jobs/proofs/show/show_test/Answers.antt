use Rattle.std.proofs.Common.{ℕ, ◌≡◌, List, [], ◌∷◌, Result, Ok, Err, refl}
use Rattle.std.specs.Prelude.{OnOk, OnErr}
use Rattle.bpf_suite.specs.declared.section.Section.{Section}
use Rattle.counted_io.specs.Writing.{Writes}
use Rattle.bpfdb_faults.specs.Streams.{Told}
use Rattle.bpfdb_faults.specs.Faults.{line_of}
use Rattle.bpfdb_jobs.specs.Shown.{EndsShown, Exhausted, HidesPart, Lost, Refused, Shown, Shows}
use Rattle.bpfdb_jobs.specs.Streams.{Outputs}
use Rattle.bpfdb_jobs.specs.Suites.{AreTestsOf}
use Rattle.bpfdb_faults.specs.declared.fault.JobFault.{JobFault}
use Rattle.bpfdb_faults.specs.declared.fault.JobFault.TheVariants as fault
use Rattle.bpfdb_jobs.specs.declared.job.Job.{Job}
use Rattle.bpfdb_options.specs.declared.ask.TestAsk.{TestAsk}
use Rattle.bpfdb_faults.specs.declared.refusal.JobRefusal.TheVariants.{OtherMap, OtherObject, Kind, Maps, Listing, Load, Opening, Open, Journal, OtherRun, TraceLine, Script, What, Goal, Object, Functions, Tests, NoTest, ManyTests, NoPlace}
use Rattle.bpfdb_options.specs.declared.test_part.TestPart.{TestPart}
use Rattle.bpfdb_jobs.proofs.show.show_test.Goals as goal

-- the bytes were written, or a beginning of them
written : {W E A F : Type 0} {s : Outputs W E} (part : TestPart) (ask : TestAsk) (job : Job) (test : List Section) (bytes : List ℕ)
    (r : Result A F) (status : ℕ) → AreTestsOf ask job (test ∷ []) → Shows part test bytes → Writes s.output.bytes s.output.old s.output.new r bytes
    → OnOk r ((s.errors.new ≡ s.errors.old) × (status ≡ 0)) → OnErr r (Told s.errors (line_of fault.Output) × (status ≡ 2))
    → EndsShown part ask job s status
written part ask job test bytes (Ok v) status asked shows w ok err = Shown test bytes asked shows (w.ok, w.same) ok.0 ok.1
written part ask job test bytes (Err e) status asked shows w ok err = Lost test bytes asked shows (w.err, w.fault) err.0 err.1

pub returns-in-Ok-clause-does : goal.returns-in-Ok-clause-does
returns-in-Ok-clause-does g c =
    written c.args.part c.args.ask.now c.args.job.now c.args.test.now c.in-Ok.bytes.items c.write_out-written.result c.ended.result c.requires c.in-Ok.ensures.ok
    (rw c.as_slice.ensures.value at c.write_out-written.ensures) c.ended.ensures.ok c.ended.ensures.err

-- the bytes weren't made
hidden : {W E : Type 0} {s : Outputs W E} (part : TestPart) (ask : TestAsk) (job : Job) (test : List Section) (why : JobFault) (status : ℕ)
    → s.output.new ≡ s.output.old → AreTestsOf ask job (test ∷ []) → HidesPart part test why → Told s.errors (line_of why) → status ≡ 2
    → EndsShown part ask job s status
hidden part ask job test (fault.Refused (Listing why)) status same asked hides told two = Refused (Listing why) (test, asked, hides) same told two
hidden part ask job test fault.Memory status same asked hides told two = Exhausted same told two
hidden part ask job test (fault.Unreadable name) status same asked hides told two = absurd hides
hidden part ask job test (fault.Unwritable name) status same asked hides told two = absurd hides
hidden part ask job test fault.NotText status same asked hides told two = absurd hides
hidden part ask job test fault.Input status same asked hides told two = absurd hides
hidden part ask job test fault.Output status same asked hides told two = absurd hides
hidden part ask job test (fault.Refused (Maps why)) status same asked hides told two = absurd hides
hidden part ask job test (fault.Refused (Load why)) status same asked hides told two = absurd hides
hidden part ask job test (fault.Refused (Open why)) status same asked hides told two = absurd hides
hidden part ask job test (fault.Refused (Opening why)) status same asked hides told two = absurd hides
hidden part ask job test (fault.Refused (Journal why)) status same asked hides told two = absurd hides
hidden part ask job test (fault.Refused (OtherRun why)) status same asked hides told two = absurd hides
hidden part ask job test (fault.Refused (NoPlace name)) status same asked hides told two = absurd hides
hidden part ask job test (fault.Refused (TraceLine fault line)) status same asked hides told two = absurd hides
hidden part ask job test (fault.Refused (Script why)) status same asked hides told two = absurd hides
hidden part ask job test (fault.Refused (What why)) status same asked hides told two = absurd hides
hidden part ask job test (fault.Refused (Goal why)) status same asked hides told two = absurd hides
hidden part ask job test (fault.Refused (Object why name)) status same asked hides told two = absurd hides
hidden part ask job test (fault.Refused (Functions why index name)) status same asked hides told two = absurd hides
hidden part ask job test (fault.Refused (Tests why line)) status same asked hides told two = absurd hides
hidden part ask job test (fault.Refused (NoTest name)) status same asked hides told two = absurd hides
hidden part ask job test (fault.Refused ManyTests) status same asked hides told two = absurd hides
hidden part ask job test (fault.Refused (Kind why)) status same asked hides told two = absurd hides
hidden part ask job test (fault.Refused (OtherMap number)) status same asked hides told two = absurd hides
hidden part ask job test (fault.Refused (OtherObject why name)) status same asked hides told two = absurd hides

pub returns-in-Err-clause-does : goal.returns-in-Err-clause-does
returns-in-Err-clause-does g c =
    hidden c.args.part c.args.ask.now c.args.job.now c.args.test.now c.in-Err.fault c.give_up.result refl c.requires c.in-Err.ensures.err
    c.give_up.ensures.told c.give_up.ensures.value
