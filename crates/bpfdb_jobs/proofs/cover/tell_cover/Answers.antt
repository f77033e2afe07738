use Rattle.std.proofs.Common.{◌≡◌, List, ℕ, Result, Ok, Err, refl}
use Rattle.bpf_suite.specs.declared.cover.CoverForm.{CoverForm}
use Rattle.counted_io.specs.Writing.{Writes}
use Rattle.bpfdb_faults.specs.Streams.{Told}
use Rattle.bpfdb_faults.specs.Faults.{line_of}
use Rattle.bpfdb_faults.specs.declared.fault.JobFault.TheVariants as fault
use Rattle.bpfdb_jobs.specs.Streams.{Outputs}
use Rattle.bpfdb_jobs.specs.Suites.{Covered, CoversTests, EndsTold, Lost, Unfound}
use Rattle.bpfdb_jobs.specs.declared.job.Job.{Job}
use Rattle.bpfdb_options.specs.declared.ask.TestAsk.{TestAsk}
use Rattle.bpfdb_jobs.proofs.cover.tell_cover.Goals as goal

module _ {W E A F : Type 0} {s : Outputs W E} (form : CoverForm) (ask : TestAsk) (job : Job) (reported : ℕ) (text : List ℕ) (covers : CoversTests form ask job text) where
  -- the tables were written
  written : (r : Result A F) (v : A) → r ≡ Ok v → Writes s.output.bytes s.output.old s.output.new r text → s.errors.new ≡ s.errors.old → EndsTold form ask job reported s reported
  written (Ok a) v is w same = Covered text covers (w.ok, w.same) same refl
  written (Err e) v is w same = cc

  -- or a beginning of them
  lost : (r : Result A F) (e : F) → r ≡ Err e → Writes s.output.bytes s.output.old s.output.new r text → Told s.errors (line_of fault.Output) → (status : ℕ) → status ≡ 2 → EndsTold form ask job reported s status
  lost (Ok a) e is w told status two = cc
  lost (Err f) e is w told status two = Lost text covers (w.err, w.fault) told two

pub returns-in-Err-clause-does : goal.returns-in-Err-clause-does
returns-in-Err-clause-does g c = Unfound refl c.give_up.ensures.told c.give_up.ensures.value

pub returns-in-Ok-write_out-clause-does : goal.returns-in-Ok-write_out-clause-does
returns-in-Ok-write_out-clause-does g c =
    written c.args.form.now c.args.ask.now c.args.job.now c.args.reported c.in-Ok.text.items (c.in-Ok.ensures) c.write_out.result c.in-Ok-write_out.field-0 c.in-Ok-write_out.is
    (rw c.as_slice.ensures.value at c.write_out.ensures) refl

pub returns-clause-does : goal.returns-clause-does
returns-clause-does g c =
    lost c.args.form.now c.args.ask.now c.args.job.now c.args.reported c.in-Ok.text.items (c.in-Ok.ensures) c.write_out.result c.in-Err-write_out.field-0 c.in-Err-write_out.is
    (rw c.as_slice.ensures.value at c.write_out.ensures) c.give_up-in-Err-write_out.ensures.told c.give_up-in-Err-write_out.result c.give_up-in-Err-write_out.ensures.value
