-- How a run that is told ends.
use Rattle.std.proofs.Common.{ℕ, ◌≡◌, List, [], ◌++◌, Option, Some, None, Result, Ok, Err, refl, ap, ◌∙◌}
use Rattle.std.specs.Prelude.{IfErr, OnOk}
use Rattle.bpf_steps.specs.State.{State}
use Rattle.bpf_session.specs.Plain.{plain_end}
use Rattle.bpf_trace.specs.Rows.{trace_until}
use Rattle.bpf_trace.specs.declared.strict_run.Unwritten.{Unwritten}
use Rattle.bpf_trace.specs.Profiles.{counts_text, profile_of, profile_text}
use Rattle.bpfdb_faults.specs.Streams.{Told}
use Rattle.bpfdb_jobs.specs.Endings.{EndsPrinted, Exhausted, OutLost, Printed}
use Rattle.bpfdb_faults.specs.Faults.{line_of}
use Rattle.bpfdb_jobs.specs.Jobs.{IsKnown, Prints, initial_of, run_end, shown_of, status_of_end, trace_or_stopped, trace_out, trace_print}
use Rattle.bpfdb_jobs.specs.Streams.{Outputs}
use Rattle.bpfdb_jobs.proofs.Printing.{OpensStrict, strict-read}
use Rattle.bpf_trace.specs.Tellings.{Tells}
use Rattle.bpfdb_jobs.specs.Tellings.{fault_of_told}
use Rattle.bpfdb_script.specs.SlotTexts.{SlotTexts}
use Rattle.bpfdb_jobs.specs.declared.job.Job.{Job}
use Rattle.bpfdb_jobs.specs.declared.known.Known.{Known}
use Rattle.bpf_trace.specs.declared.trace.TraceFault.{TraceFault}
use Rattle.bpf_trace.specs.declared.trace.TraceFault.TheVariants.{Memory, Write}
use Rattle.bpfdb_options.specs.declared.ask.Ask.TheVariants.{Trace}
use Rattle.bpfdb_options.specs.declared.ask.TraceAsk.{TraceAsk}

-- what a run prints, from the machine that was opened
trace-prints : (trace : TraceAsk) (job : Job) (known : Known) (x end : State) (read : Option Unwritten) (o : OpensStrict trace.is_strict known.own job x read) → IsKnown job o.0.object known
    → read ≡ None → end ≡ plain_end job.options.limit x → Prints (Trace trace) job (trace_print trace job known x end)
trace-prints trace job known x end read o is_known none e = (
  o.0,
  known,
  o.1,
  is_known,
  ap (λ (y : State). trace_print trace job known y end) o.2
      ∙ ap (trace_print trace job known (initial_of job o.0)) (e ∙ ap (plain_end job.options.limit) o.2)
      ∙ ap (λ (r : Option Unwritten). trace_or_stopped r trace job known (initial_of job o.0) (run_end job o.0)) (strict-read trace.is_strict known.own job x read None o none),
)

pub trace-ends : {W E : Type 0} {s : Outputs W E} (trace : TraceAsk) (job : Job) (known : Known) (x end : State) (read : Option Unwritten)
    (r : Result (Unit {0}) TraceFault) (status : ℕ) → (o : OpensStrict trace.is_strict known.own job x read) → IsKnown job o.0.object known → read ≡ None
    → Tells s.output.bytes s.output.old s.output.new r (trace_out trace job known x) → OnOk r (end ≡ plain_end job.options.limit x)
    → OnOk r ((s.errors.new ≡ s.errors.old) × (status ≡ status_of_end end.status))
    → IfErr r (λ why. Told s.errors (line_of (fault_of_told why)) × (status ≡ 2))
    → EndsPrinted (Trace trace) job s status
trace-ends trace job known x end read (Ok done) status o is_known none told e ok err =
    Printed (trace_print trace job known x end) (trace-prints trace job known x end read o is_known none e) (told.ok, told.same) ok.0 ok.1
trace-ends trace job known x end read (Err Memory) status o is_known none told e ok err =
    Exhausted (trace_print trace job known x (plain_end job.options.limit x))
    (trace-prints trace job known x (plain_end job.options.limit x) read o is_known none refl) tt told err.0 err.1
trace-ends trace job known x end read (Err Write) status o is_known none told e ok err =
    OutLost (trace_print trace job known x (plain_end job.options.limit x))
    (trace-prints trace job known x (plain_end job.options.limit x) read o is_known none refl) (told.err, told.fault) err.0 err.1

-- one that stopped
until-prints : (trace : TraceAsk) (job : Job) (known : Known) (x : State) (read : Option Unwritten) (at : Unwritten) (o : OpensStrict trace.is_strict known.own job x read)
    → IsKnown job o.0.object known → read ≡ Some at → Prints (Trace trace) job (trace_or_stopped (Some at) trace job known x x)
until-prints trace job known x read at o is_known is = (
  o.0,
  known,
  o.1,
  is_known,
  ap (λ (y : State). trace_or_stopped (Some at) trace job known y y) o.2
      ∙ ap (λ (r : Option Unwritten). trace_or_stopped r trace job known (initial_of job o.0) (run_end job o.0)) (strict-read trace.is_strict known.own job x read (Some at) o is),
)

pub until-ends : {W E : Type 0} {s : Outputs W E} (trace : TraceAsk) (job : Job) (known : Known) (x : State) (read : Option Unwritten) (at : Unwritten)
    (r : Result (Unit {0}) TraceFault) (status : ℕ) → (o : OpensStrict trace.is_strict known.own job x read) → IsKnown job o.0.object known → read ≡ Some at
    → Tells s.output.bytes s.output.old s.output.new r (trace_until at (shown_of trace known) x)
    → OnOk r ((s.errors.new ≡ s.errors.old) × (status ≡ 1))
    → IfErr r (λ why. Told s.errors (line_of (fault_of_told why)) × (status ≡ 2))
    → EndsPrinted (Trace trace) job s status
until-ends trace job known x read at (Ok done) status o is_known is told ok err =
    Printed (trace_or_stopped (Some at) trace job known x x) (until-prints trace job known x read at o is_known is) (told.ok, told.same) ok.0 ok.1
until-ends trace job known x read at (Err Memory) status o is_known is told ok err =
    Exhausted (trace_or_stopped (Some at) trace job known x x) (until-prints trace job known x read at o is_known is) tt told err.0 err.1
until-ends trace job known x read at (Err Write) status o is_known is told ok err =
    OutLost (trace_or_stopped (Some at) trace job known x x) (until-prints trace job known x read at o is_known is) (told.err, told.fault) err.0 err.1

-- the profile of a run, from the machine that it left
pub profile-is : (texts : SlotTexts) (limit : ℕ) (counts : List ℕ) (x y : State) → counts ≡ profile_of limit x → y ≡ plain_end limit x
    → [] ++ counts_text texts counts limit y ≡ profile_text texts limit x
profile-is texts limit counts x y is end = ap (λ (cs : List ℕ). counts_text texts cs limit y) is ∙ ap (counts_text texts (profile_of limit x) limit) end
