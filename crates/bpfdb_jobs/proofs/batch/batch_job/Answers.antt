use Rattle.std.proofs.Common.{ℕ, ◌≡◌, refl, Result, Ok, Err}
use Rattle.std.specs.Prelude.{IfErr, OnOk}
use Rattle.bpf_batch.specs.Batches.{AnswersAll, BreaksOff, FailsBy}
use Rattle.bpf_batch.specs.declared.batch.Batch.{Batch}
use Rattle.bpf_batch.specs.declared.fault.BatchFault.{BatchFault}
use Rattle.bpfdb_faults.specs.Streams.{Spared, Stream, Told}
use Rattle.bpfdb_faults.specs.declared.refusal.JobRefusal.TheVariants.{Maps}
use Rattle.bpfdb_jobs.specs.Cases.{Broken, EndsBatch, IsBatchOf, Refused, Served, batch_line}
use Rattle.bpfdb_jobs.specs.Scripts.{Exchanges}
use Rattle.bpfdb_jobs.specs.Streams.{Outputs}
use Rattle.bpfdb_jobs.specs.declared.job.Job.{Job}
use Rattle.bpfdb_jobs.proofs.batch.batch_job.Goals as goal

-- it was answered to its end, or broke off
ends : {R W E A : Type 0} {reader : Stream R} {s : Outputs W E} (job : Job) (b : Batch) (r : Result A BatchFault) (status : ℕ)
    → IsBatchOf job b → OnOk r (Exchanges reader s.output (AnswersAll b)) → IfErr r (λ why. Exchanges reader s.output (BreaksOff why b))
    → OnOk r (Spared reader × Spared s.output) → IfErr r (λ why. FailsBy why reader.old reader.new s.output.old s.output.new)
    → OnOk r ((s.errors.new ≡ s.errors.old) × (status ≡ 0)) → IfErr r (λ why. Told s.errors (batch_line why) × (status ≡ 2))
    → EndsBatch job reader s status
ends job b (Ok v) status is answers broken spared fails ok err = Served b is answers spared.0 spared.1 ok.0 ok.1
ends job b (Err why) status is answers broken spared fails ok err = Broken b why is broken fails err.0 err.1

pub returns-in-Err-clause-does : goal.returns-in-Err-clause-does
returns-in-Err-clause-does g c =
    Refused (Maps c.in-Err.fault) c.in-Err.ensures.err (refl, refl, c.give_up.ensures.told, c.give_up.ensures.value)

pub returns-clause-does : goal.returns-clause-does
returns-clause-does g c =
    ends c.args.job.now _ c.run_batch.result c.batch_ended.result (record { maps = c.in-Ok.ensures.ok; limit = refl; program = refl })
    c.run_batch.ensures.value c.run_batch.ensures.broken c.run_batch.ensures.ok c.run_batch.ensures.err
    c.batch_ended.ensures.ok c.batch_ended.ensures.err
