-- How a job ends, as it stands on reader, writer and standard error.
use Rattle.std.specs.Prelude.{◌≡◌, ℕ, List, ⊤}
use Rattle.bpf_session.specs.Runs.{FailsBy}
use Rattle.bpf_session.specs.declared.fault.RunFault.{RunFault}
use Rattle.bpf_session.specs.declared.fault.RunFault.TheVariants as run
use Rattle.bpfdb_faults.specs.Faults.{input_line, line_of, output_line, session_line}
use Rattle.bpfdb_faults.specs.Streams.{Gets, Loses, Spared, Stream, Told}
use Rattle.bpfdb_jobs.specs.Jobs.{HasRoom, Print, Prints}
use Rattle.bpfdb_jobs.specs.Refusals.{Refuses, RefusesAs}
use Rattle.bpfdb_jobs.specs.Streams.{Outputs}
use Rattle.bpfdb_faults.specs.declared.fault.JobFault.TheVariants as fault
use Rattle.bpfdb_jobs.specs.declared.job.Job.{Job}
use Rattle.bpfdb_faults.specs.declared.refusal.JobRefusal.{JobRefusal}
use Rattle.bpfdb_options.specs.declared.ask.Ask.{Ask}
use Rattle.bpfdb_options.specs.declared.ask.Ask.TheVariants.{Diff, Disasm, Trace}

-- Subcommands for which memory may run out where no refusal says so.
abbrev pub MayExhaust : Ask → Job → Type 0
MayExhaust Disasm job = ⊤
MayExhaust (Trace trace) job = ⊤
MayExhaust (Diff diff) job = ⊤
MayExhaust ask job = ⊥

-- How a job ends that prints: all was printed; or it was refused; or memory ran out, before anything was written; or standard output failed,
-- which got a beginning; or standard error failed while it was told what follows the output.
pub data EndsPrinted {W E : Type 0} (ask : Ask) (job : Job) (s : Outputs W E) (status : ℕ) : Type 0 where
  Printed : (a : Print) → Prints ask job a → Gets s.output a.out → Gets s.errors a.err → status ≡ a.status → EndsPrinted ask job s status
  Refused : (refusal : JobRefusal) → RefusesAs ask job refusal → s.output.new ≡ s.output.old → Told s.errors (line_of (fault.Refused refusal))
      → status ≡ 2 → EndsPrinted ask job s status
  Exhausted : (a : Print) → Prints ask job a → MayExhaust ask job → s.output.new ≡ s.output.old → Told s.errors (line_of fault.Memory)
      → status ≡ 2 → EndsPrinted ask job s status
  OutLost : (a : Print) → Prints ask job a → Loses s.output a.out → Told s.errors (line_of fault.Output) → status ≡ 2 → EndsPrinted ask job s status
  ErrLost : (a : Print) → Prints ask job a → Gets s.output a.out → Loses s.errors a.err → status ≡ 2 → EndsPrinted ask job s status

-- The line of a session that is broken off.
abbrev pub broken_line : RunFault → List ℕ
broken_line run.Read = input_line
broken_line run.Write = output_line

-- How a job ends that opens a session: it was served to its end; or it was refused, and nothing was read and written; or it was served until
-- a read or a write failed.
pub data EndsSession {R W E : Type 0} (job : Job) (Serves : Type 0) (Breaks : RunFault → Type 0)
    (reader : Stream R) (writer : Stream W) (errors : Stream E) (status : ℕ) : Type 0 where
  Served : HasRoom job → Serves → Spared reader → Spared writer → errors.new ≡ errors.old → status ≡ 0
      → EndsSession job Serves Breaks reader writer errors status
  Refused : (refusal : JobRefusal) → Refuses job refusal → reader.new ≡ reader.old → writer.new ≡ writer.old → Told errors (session_line refusal)
      → status ≡ 2 → EndsSession job Serves Breaks reader writer errors status
  Broken : (why : RunFault) → HasRoom job → Breaks why
      → FailsBy why reader.old reader.new writer.old writer.new → Told errors (broken_line why) → status ≡ 2
      → EndsSession job Serves Breaks reader writer errors status
