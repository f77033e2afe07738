-- What a job comes to, by what it asks.
use Rattle.std.specs.Prelude.{ℕ, ◌≡◌, false, true}
use Rattle.bpf_isa.specs.Programs.{Checked}
use Rattle.bpf_load.specs.Targets.{Loads}
use Rattle.bpf_load.specs.declared.program.Loaded.{Loaded}
use Rattle.bpfdb_jobs.specs.Cases.{EndsBatch}
use Rattle.bpfdb_jobs.specs.Connections.{BreaksConnection, ServesConnection}
use Rattle.bpfdb_jobs.specs.Conversations.{Converses}
use Rattle.bpfdb_faults.specs.Streams.{Stream}
use Rattle.bpfdb_jobs.specs.Endings.{EndsPrinted, EndsSession}
use Rattle.bpfdb_faults.specs.Faults.{line_of}
use Rattle.bpfdb_jobs.specs.Objects.{SaysLines, Unloads, is_check}
use Rattle.counted_io.specs.Counted.{Tally}
use Rattle.bpfdb_jobs.specs.Scripts.{Exchanges, Replies, RepliesUntil}
use Rattle.bpfdb_jobs.specs.Shown.{EndsTest}
use Rattle.bpfdb_jobs.specs.Streams.{Outputs, TellsOnly, behind}
use Rattle.bpfdb_faults.specs.declared.fault.JobFault.TheVariants as fault
use Rattle.bpfdb_jobs.specs.declared.job.Job.{Job}
use Rattle.bpfdb_faults.specs.declared.refusal.JobRefusal.{JobRefusal}
use Rattle.bpfdb_options.specs.declared.registers.Registers.{Registers}
use Rattle.bpfdb_options.specs.declared.ask.Ask.{Ask}
use Rattle.bpfdb_options.specs.declared.ask.Ask.TheVariants.{Batch, Conversation, Debug, Gdb, Test}

-- A script was obeyed over a program.
abbrev pub Debugs : {R W E : Type 0} → Job → Checked → Stream R → Stream W → Stream E → ℕ → Type 0
Debugs job program reader writer errors status = EndsSession job (Exchanges reader writer (Replies job program))
    (λ why. Exchanges reader writer (RepliesUntil job program why)) reader writer errors status

-- gdb was served.
abbrev pub ServesGdb : {R W E : Type 0} → Registers → Job → Loaded → Stream R → Outputs W E → ℕ → Type 0
ServesGdb registers job loaded reader s status = EndsSession job (ServesConnection registers job loaded reader s.output)
    (BreaksConnection registers job loaded reader s.output) reader s.output s.errors status

-- Each other subcommand prints, and reads nothing; `batch` answers cases, `test` reports on tests, or shows a part of one.
abbrev pub DoesPlain : {R W E : Type 0} → Ask → Job → Stream R → Outputs W E → ℕ → Type 0
DoesPlain Debug job reader s status = (loaded : Loaded) × Loads job.target job.file.now loaded × Debugs job loaded.program reader s.output s.errors status
DoesPlain (Conversation talk) job reader s status = (loaded : Loaded) × Loads job.target job.file.now loaded × Converses talk job loaded reader s status
DoesPlain (Gdb registers) job reader s status = (loaded : Loaded) × Loads job.target job.file.now loaded × ServesGdb registers job loaded reader s status
DoesPlain Batch job reader s status = EndsBatch job reader s status
DoesPlain (Test ask) job reader s status = (reader.new ≡ reader.old) × EndsTest ask.show ask job s status
DoesPlain ask job reader s status = (reader.new ≡ reader.old) × EndsPrinted ask job s status

-- A job is done, behind what is said of the lines of a program that is loaded for it; or FILE isn't loaded, or nothing is known of the lines that it asks
-- about, and nothing is read and written.
pub data DoesJob {R W E : Type 0} (ask : Ask) (job : Job) (reader : Stream R) (s : Outputs W E) (status : ℕ) : Type 0 where
  Does : is_check ask ≡ false → DoesPlain ask job reader s status → DoesJob ask job reader s status
  DoesLoaded : is_check ask ≡ true → (loaded : Loaded) → Loads job.target job.file.now loaded → (said : Tally E)
      → SaysLines job loaded.object (record s.errors { new = said }) → DoesPlain ask job reader (behind said s) status
      → DoesJob ask job reader s status
  Unloaded : is_check ask ≡ true → (refusal : JobRefusal) → Unloads job refusal → TellsOnly reader s (line_of (fault.Refused refusal)) status
      → DoesJob ask job reader s status
