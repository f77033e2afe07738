-- How jobs end that print.
use Rattle.std.proofs.Common.{Bool, ℕ, ◌≡◌, List, Option, Some, None, Result, Ok, Err, refl, sym, ap, ◌∙◌}
use Rattle.std.specs.Prelude.{OnOk, OnErr}
use Rattle.bpf_load.specs.Targets.{Loads}
use Rattle.bpf_load.specs.declared.program.Loaded.{Loaded}
use Rattle.bpf_steps.specs.State.{State}
use Rattle.bpf_session.specs.Plain.{ending_of, plain_end}
use Rattle.bpf_session.specs.declared.plain.Ending.{Ending}
use Rattle.counted_io.specs.Writing.{Writes}
use Rattle.bpf_trace.specs.UnwrittenTexts.{unwritten_line}
use Rattle.bpf_trace.specs.declared.own_code.OwnCode.{OwnCode}
use Rattle.bpf_trace.specs.declared.strict_run.Unwritten.{Unwritten}
use Rattle.bpfdb_faults.specs.Streams.{Gets, Loses, Stream, Told}
use Rattle.bpfdb_jobs.specs.Endings.{EndsPrinted, ErrLost, OutLost, Printed}
use Rattle.bpfdb_faults.specs.Faults.{line_of}
use Rattle.bpfdb_jobs.specs.Jobs.{IsKnown, Opens, OpensMachine, Print, Prints, initial_of, printed, run_end, run_or_stopped, run_print, stopped, unwritten_in}
use Rattle.bpfdb_faults.specs.declared.fault.JobFault.TheVariants.{Output}
use Rattle.bpfdb_jobs.specs.Streams.{Outputs}
use Rattle.bpfdb_jobs.specs.declared.job.Job.{Job}
use Rattle.bpfdb_jobs.specs.declared.known.Known.{Known}
use Rattle.bpfdb_options.specs.declared.ask.Ask.{Ask}
use Rattle.bpfdb_options.specs.declared.ask.Ask.TheVariants.{Run}

module _ {W E A F : Type 0} {s : Outputs W E} (ask : Ask) (job : Job) where
  -- a result was written, or a beginning of it
  pub out-printed : (out : List ℕ) (r : Result A F) (status : ℕ) → Prints ask job (printed out)
      → Writes s.output.bytes s.output.old s.output.new r out → OnOk r ((s.errors.new ≡ s.errors.old) × (status ≡ 0))
      → OnErr r (Told s.errors (line_of Output) × (status ≡ 2)) → EndsPrinted ask job s status
  out-printed out (Ok v) status prints w ok err = Printed (printed out) prints (w.ok, w.same) ok.0 ok.1
  out-printed out (Err e) status prints w ok err = OutLost (printed out) prints (w.err, w.fault) err.0 err.1

  -- what goes to standard error was told, or a beginning of it
  pub err-printed : (a : Print) (r : Result A F) (status : ℕ) → Prints ask job a → Gets s.output a.out
      → OnOk r (Gets s.errors a.err) → OnErr r (Loses s.errors a.err) → OnOk r (status ≡ a.status) → OnErr r (status ≡ 2)
      → EndsPrinted ask job s status
  err-printed a (Ok v) status prints out err lost ends two = Printed a prints out err ends
  err-printed a (Err e) status prints out err lost ends two = ErrLost a prints out lost two

-- a line that was written, or a beginning of it
pub line-got : {E A F : Type 0} {errors : Stream E} (r : Result A F) (line : List ℕ) → Writes errors.bytes errors.old errors.new r line
    → OnOk r (Gets errors (Some line))
line-got (Ok v) line w = (w.ok, w.same)
line-got (Err e) line w = tt

pub line-lost : {E A F : Type 0} {errors : Stream E} (r : Result A F) (line : List ℕ) → Writes errors.bytes errors.old errors.new r line
    → OnErr r (Loses errors (Some line))
line-lost (Ok v) line w = tt
line-lost (Err e) line w = (w.err, w.fault)

-- a machine that was opened, and where its run stops
abbrev pub OpensStrict : Bool → OwnCode → Job → State → Option Unwritten → Type 0
OpensStrict strict own job x read = (loaded : Loaded) × Opens job loaded × (x ≡ initial_of job loaded) × (read ≡ unwritten_in strict own job x)

abbrev pub opens-strict : (strict : Bool) (own : OwnCode) (job : Job) (loaded : Loaded) (x : State) (read : Option Unwritten) → Loads job.target job.file.now loaded
    → OpensMachine job loaded.program x × (read ≡ unwritten_in strict own job x) → OpensStrict strict own job x read
opens-strict strict own job loaded x read loads o = (loaded, record { loads = loads; asked = o.0.0; short = o.0.1 }, o.0.2, o.1)

pub strict-read : (strict : Bool) (own : OwnCode) (job : Job) (x : State) (read now : Option Unwritten) → (o : OpensStrict strict own job x read) → read ≡ now
    → now ≡ unwritten_in strict own job (initial_of job o.0)
strict-read strict own job x read now o is = sym is ∙ o.3 ∙ ap (unwritten_in strict own job) o.2

-- what a run prints, from the machine that was opened and the state that it left
module _ (strict : Bool) (job : Job) (known : Known) (x : State) (read : Option Unwritten) (o : OpensStrict strict known.own job x read) (is_known : IsKnown job o.0.object known) where
  abbrev print-of : Ending → State → Print
  print-of ending end = run_print job.target known.places job.options.limit ending end

  abbrev print-by : Option Unwritten → Print
  print-by r = run_or_stopped known.places r (print-of (ending_of (run_end job o.0).status) (run_end job o.0))

  pub run-prints : (end : State) (ending : Ending) → read ≡ None → end ≡ plain_end job.options.limit x → ending ≡ ending_of end.status
      → Prints (Run strict) job (run_print job.target known.places job.options.limit ending end)
  run-prints end ending none e is = (
    o.0,
    known,
    o.1,
    is_known,
    ap (λ z. print-of z end) is ∙ ap (λ (y : State). print-of (ending_of y.status) y) (e ∙ ap (plain_end job.options.limit) o.2)
        ∙ ap print-by (strict-read strict known.own job x read None o none),
  )

  pub stopped-prints : (at : Unwritten) → read ≡ Some at → Prints (Run strict) job (stopped (unwritten_line known.places at))
  stopped-prints at is = (o.0, known, o.1, is_known, ap print-by (strict-read strict known.own job x read (Some at) o is))
