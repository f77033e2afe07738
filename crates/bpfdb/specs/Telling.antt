-- What becomes of a job whose answer is told in another form: as objects of JSON, or as a graph.
use Rattle.std.specs.Prelude.{ℕ, ◌≡◌, Bool, true, false, List, [], Vec, Option, Some, None, if◌then◌else◌}
use Rattle.std.specs.Option.{option_map}
use Rattle.std.specs.declared.alloc.Global.{Global}
use Rattle.bpfdb_cli.specs.declared.plans.Form.{Form}
use Rattle.bpfdb_cli.specs.declared.plans.Form.TheVariants as form
use Rattle.bpfdb_cli.specs.declared.plans.Plan.{Plan}
use Rattle.bpfdb_faults.specs.Faults.{line_of}
use Rattle.bpfdb_faults.specs.Streams.{Gets, Loses, Spared, Stream, Told}
use Rattle.bpfdb_faults.specs.declared.fault.JobFault.TheVariants.{Memory, Output}
use Rattle.bpfdb_jobs.specs.Done.{DoesJob}
use Rattle.bpfdb_jobs.specs.Streams.{Outputs}
use Rattle.bpfdb_jobs.specs.declared.job.Job.{Job}
use Rattle.bpfdb_options.specs.declared.ask.Ask.{Ask}
use Rattle.bpfdb_options.specs.declared.ask.Ask.TheVariants as ask
use Rattle.bpfdb.specs.declared.telling.Telling.{Telling}
use Rattle.bpfdb.specs.declared.telling.Telling.TheVariants.{Json, Graph}
use Rattle.answer_forms.specs.Graphs.{dot_of}
use Rattle.answer_forms.specs.Objects.{json_of}
use Rattle.answer_forms.specs.declared.answer.Answer.{Answer}
use Rattle.answer_forms.specs.declared.answer.Answer.TheVariants as answer

-- Whether lines of a script are obeyed.
abbrev pub obeys_script : Ask → Bool
obeys_script ask.Debug = true
obeys_script (ask.Conversation talk) = true
obeys_script asked = false

-- What is printed, by what is asked; none where the job prints objects itself, as `trace` does of steps and `debug` of replies.
abbrev pub answer_for : Ask → Option Answer
answer_for (ask.Run strict) = Some answer.Value
answer_for (ask.Trace trace) = if trace.is_profile then Some answer.Profile else if trace.is_calls then Some answer.Calls else None
answer_for (ask.Conversation talk) = None
answer_for ask.Lines = Some answer.Lines
answer_for ask.Load = Some answer.Program
answer_for ask.Disasm = Some answer.Listing
answer_for ask.Check = Some answer.Check
answer_for (ask.Test tests) = Some answer.Report
answer_for _ = Some answer.Run

-- The form in which it is told, and its text in that.
abbrev pub telling_in : Form → Ask → Option Telling
telling_in form.Lines asked = None
telling_in form.Json asked = option_map Json (answer_for asked)
telling_in form.Dot asked = Some Graph

abbrev pub telling_of : Plan → Option Telling
telling_of plan = telling_in plan.form plan.ask

abbrev pub told_in : Telling → List ℕ → List ℕ
told_in (Json answer) text = json_of answer text
told_in Graph text = dot_of text

-- Two streams in memory took all that was written: this text, and this on standard error.
pub record AreHeld (s : Outputs (Vec ℕ Global) (Vec ℕ Global)) (text err : List ℕ) : Type 0 where
  pub empty : s.output.bytes s.output.old.inner ≡ Some []
  pub printed : s.output.bytes s.output.new.inner ≡ Some text
  pub quiet : s.errors.bytes s.errors.old.inner ≡ Some []
  pub said : s.errors.bytes s.errors.new.inner ≡ Some err
  pub spared : Spared s.output × Spared s.errors

-- A job was done over two of them: so it prints this text, and this on standard error.
abbrev pub TellsInMemory : {R : Type 0} → Job → Stream R → List ℕ → List ℕ → ℕ → Type 0
TellsInMemory job reader text err status =
    (s : Outputs (Vec ℕ Global) (Vec ℕ Global)) × DoesJob job.ask job reader s status × AreHeld s text err

-- An output is written, and then what was told on standard error; or one of them is lost.
pub data EndsRetold {W E : Type 0} (output err : List ℕ) (done : ℕ) (s : Outputs W E) (status : ℕ) : Type 0 where
  Written : Gets s.output (Some output) → Gets s.errors (Some err) → status ≡ done → EndsRetold output err done s status
  OutLost : Loses s.output (Some output) → Told s.errors (line_of Output) → status ≡ 2 → EndsRetold output err done s status
  ErrLost : Gets s.output (Some output) → Loses s.errors (Some err) → status ≡ 2 → EndsRetold output err done s status

-- What the job prints is told in a form; or memory ran out for that, and nothing is written.
pub data Retells {R W E : Type 0} (telling : Telling) (job : Job) (reader : Stream R) (s : Outputs W E) (status : ℕ) : Type 0 where
  Tells : (text err : List ℕ) → (done : ℕ) → TellsInMemory job reader text err done → EndsRetold (told_in telling text) err done s status
      → Retells telling job reader s status
  Exhausted : (memory : Outputs (Vec ℕ Global) (Vec ℕ Global)) → (done : ℕ) → DoesJob job.ask job reader memory done
      → s.output.new ≡ s.output.old → Told s.errors (line_of Memory) → status ≡ 2 → Retells telling job reader s status

-- A job is done as it is, or its answer told in another form.
abbrev pub DoesTold : {R W E : Type 0} → Option Telling → Job → Stream R → Outputs W E → ℕ → Type 0
DoesTold None job reader s status = DoesJob job.ask job reader s status
DoesTold (Some telling) job reader s status = Retells telling job reader s status
