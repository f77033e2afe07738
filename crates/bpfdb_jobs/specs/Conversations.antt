-- What `debug` comes to where lines may ask, replies are lines of JSON, or the session is strict: each line of standard input is answered by the session as it
-- stands.
use Rattle.std.specs.Prelude.{ℕ, ◌≡◌, Bool, if◌then◌else◌, List, [], Option, Some, None, map}
use Rattle.std.specs.Option.{option_map}
use Rattle.bpf_journal.specs.Tracks.{RingHolds, ring_room}
use Rattle.bpf_load.specs.declared.program.Loaded.{Loaded}
use Rattle.bpf_questions.specs.Conversations.{AnswersAll, BreaksOff}
use Rattle.bpf_questions.specs.Failures.{FailsBy}
use Rattle.bpf_questions.specs.declared.fault.ConversationFault.{ConversationFault}
use Rattle.bpf_questions.specs.declared.fault.ConversationFault.TheVariants as broken
use Rattle.bpf_questions.specs.declared.message.Form.{Form}
use Rattle.bpf_questions.specs.declared.message.Form.TheVariants as form
use Rattle.bpf_questions.specs.declared.stop.Stop.{Stop}
use Rattle.bpf_questions.specs.declared.view.View.{View}
use Rattle.bpf_ring.specs.declared.keeper.RingKeeper.{RingKeeper}
use Rattle.bpf_session.specs.Sessions.{SessionValue}
use Rattle.bpf_trace.specs.UnwrittenTexts.{unwritten_line}
use Rattle.bpf_trace.specs.declared.own_code.OwnCode.{OwnCode}
use Rattle.bpf_trace.specs.declared.strict_run.Unwritten.{Unwritten}
use Rattle.bpfdb_script.specs.SlotTexts.{SlotTexts}
use Rattle.bpfdb_faults.specs.Faults.{input_line, line_of, output_line, session_line}
use Rattle.bpfdb_faults.specs.Streams.{Spared, Stream, Told}
use Rattle.bpfdb_faults.specs.declared.fault.JobFault.TheVariants as fault
use Rattle.bpfdb_faults.specs.declared.refusal.JobRefusal.{JobRefusal}
use Rattle.bpfdb_jobs.specs.Connections.{Begins, KnowsNames, ring_refusals}
use Rattle.bpfdb_jobs.specs.Jobs.{AreTold, HasOwn, HasRoom, initial_of, unwritten_in}
use Rattle.bpfdb_jobs.specs.Namings.{NamesPlaces}
use Rattle.bpfdb_jobs.specs.Refusals.{Refuses}
use Rattle.bpfdb_jobs.specs.Scripts.{Exchanges}
use Rattle.bpfdb_jobs.specs.Streams.{Outputs}
use Rattle.bpfdb_jobs.specs.declared.job.Job.{Job}
use Rattle.bpfdb_options.specs.declared.ask.ConversationAsk.{ConversationAsk}

abbrev pub form_of : Bool → Form
form_of json = if json then form.Json else form.Text

-- The stop of a strict session: that of the run with `--strict`, and the line that tells it.
abbrev pub told_stop : Option Stop → Option (ℕ × List ℕ)
told_stop stop = option_map (λ s. (s.steps, s.text.now)) stop

abbrev pub stop_by : SlotTexts → Option Unwritten → Option (ℕ × List ℕ)
stop_by places unwritten = option_map (λ read. (read.steps, unwritten_line places read)) unwritten

pub record Stops (strict : Bool) (job : Job) (loaded : Loaded) (places : SlotTexts) (stop : Option Stop) : Type 0 where
  pub own : OwnCode
  pub is_own : HasOwn job loaded.object (option_map (λ texts. map (λ text. text.items) texts.now) places) own
  pub told : told_stop stop ≡ stop_by places (unwritten_in strict own job (initial_of job loaded))

-- What the session is asked with. An answer has at most 1,000 lines of moves.
pub record IsView (ask : ConversationAsk) (job : Job) (loaded : Loaded) (v : View) : Type 0 where
  pub asks : v.asks ≡ ask.asks
  pub form : v.form ≡ form_of ask.is_json
  pub lines : v.lines ≡ 1000
  pub names : KnowsNames job loaded.object (option_map (λ n. n.now) v.names)
  pub info : NamesPlaces job loaded.object v.info
  pub places : AreTold job loaded.object v.places
  pub strict : v.is_strict ≡ ask.is_strict
  pub stop : Stops ask.is_strict job loaded v.places v.stop

-- The line of a script that is broken off.
abbrev pub conversation_line : ConversationFault → List ℕ
conversation_line broken.Read = input_line
conversation_line broken.Write = output_line
conversation_line broken.Memory = line_of fault.Memory

-- The session of a job, before its first line.
pub record Meets (ask : ConversationAsk) (job : Job) (loaded : Loaded) : Type 0 where
  pub room : HasRoom job
  pub view : View
  pub is : IsView ask job loaded view
  pub from : SessionValue RingKeeper
  pub begins : Begins job loaded.program from

-- A script was answered to its end or to `quit`; or the session was refused, and nothing was read and written; or reading or writing failed, or
-- memory ran out, behind the first lines.
pub data Converses {R W E : Type 0} (ask : ConversationAsk) (job : Job) (loaded : Loaded) (reader : Stream R) (s : Outputs W E) (status : ℕ) : Type 0 where
  Served : (m : Meets ask job loaded) → (to : SessionValue RingKeeper)
      → Exchanges reader s.output (AnswersAll RingHolds ring_refusals ring_room m.view m.from to)
      → Spared reader → Spared s.output → s.errors.new ≡ s.errors.old → status ≡ 0 → Converses ask job loaded reader s status
  Refused : (refusal : JobRefusal) → Refuses job refusal → reader.new ≡ reader.old → s.output.new ≡ s.output.old → Told s.errors (session_line refusal)
      → status ≡ 2 → Converses ask job loaded reader s status
  Broken : (m : Meets ask job loaded) → (why : ConversationFault)
      → Exchanges reader s.output (BreaksOff RingHolds ring_refusals ring_room why m.view m.from)
      → FailsBy why reader.old reader.new s.output.old s.output.new → Told s.errors (conversation_line why) → status ≡ 2
      → Converses ask job loaded reader s status
