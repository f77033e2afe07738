-- What `batch` comes to: each line of standard input is answered as one case.
use Rattle.std.specs.Prelude.{ℕ, ◌≡◌, List}
use Rattle.bpf_batch.specs.Batches.{AnswersAll, BreaksOff, FailsBy}
use Rattle.bpf_batch.specs.declared.batch.Batch.{Batch}
use Rattle.bpf_batch.specs.declared.fault.BatchFault.{BatchFault}
use Rattle.bpf_batch.specs.declared.fault.BatchFault.TheVariants as batch
use Rattle.bpf_load.specs.Targets.{AreNamedMaps}
use Rattle.bpfdb_faults.specs.Faults.{input_line, line_of, output_line}
use Rattle.bpfdb_faults.specs.Streams.{Spared, Stream, Told}
use Rattle.bpfdb_faults.specs.declared.fault.JobFault.TheVariants as fault
use Rattle.bpfdb_faults.specs.declared.refusal.JobRefusal.{JobRefusal}
use Rattle.bpfdb_jobs.specs.Refusals.{RefusesBatch}
use Rattle.bpfdb_jobs.specs.Scripts.{Exchanges}
use Rattle.bpfdb_jobs.specs.Streams.{Outputs, TellsOnly}
use Rattle.bpfdb_jobs.specs.declared.job.Job.{Job}

-- What the cases of a job share: its maps, its limit of steps, and FILE's bytes as the words of those that have none of their own.
pub record IsBatchOf (job : Job) (b : Batch) : Type 0 where
  pub maps : AreNamedMaps job.target.maps b.maps.now
  pub limit : b.limit ≡ job.options.limit
  pub program : b.program.now ≡ job.file.now

-- The line of a batch that is broken off.
abbrev pub batch_line : BatchFault → List ℕ
batch_line batch.Read = input_line
batch_line batch.Write = output_line
batch_line batch.Memory = line_of fault.Memory

-- All lines were read and answered; or the maps were refused, and nothing was read and written; or reading or writing failed, or memory ran
-- out, behind the first lines.
pub data EndsBatch {R W E : Type 0} (job : Job) (reader : Stream R) (s : Outputs W E) (status : ℕ) : Type 0 where
  Served : (b : Batch) → IsBatchOf job b → Exchanges reader s.output (AnswersAll b) → Spared reader → Spared s.output → s.errors.new ≡ s.errors.old
      → status ≡ 0 → EndsBatch job reader s status
  Refused : (refusal : JobRefusal) → RefusesBatch job refusal → TellsOnly reader s (line_of (fault.Refused refusal)) status → EndsBatch job reader s status
  Broken : (b : Batch) → (why : BatchFault) → IsBatchOf job b → Exchanges reader s.output (BreaksOff why b)
      → FailsBy why reader.old reader.new s.output.old s.output.new → Told s.errors (batch_line why) → status ≡ 2 → EndsBatch job reader s status
