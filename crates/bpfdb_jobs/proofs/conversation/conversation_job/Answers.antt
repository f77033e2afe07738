use Rattle.std.proofs.Common.{ℕ, ◌≡◌, ◌∙◌, List, Option, Some, None, ap, refl, sym, Result, Ok, Err}
use Rattle.std.specs.Prelude.{IfErr, OnOk, option_map}
use Rattle.bpf_journal.specs.Tracks.{RingHolds, ring_room}
use Rattle.bpf_load.specs.declared.program.Loaded.{Loaded}
use Rattle.bpf_questions.specs.Conversations.{AnswersAll, BreaksOff}
use Rattle.bpf_questions.specs.Failures.{FailsBy}
use Rattle.bpf_questions.specs.declared.fault.ConversationFault.{ConversationFault}
use Rattle.bpf_questions.specs.declared.view.View.{View}
use Rattle.bpf_ring.specs.declared.keeper.RingKeeper.{RingKeeper}
use Rattle.bpf_session.specs.Sessions.{SessionValue}
use Rattle.bpf_steps.specs.State.{State}
use Rattle.bpf_trace.specs.declared.strict_run.Unwritten.{Unwritten}
use Rattle.bpfdb_script.specs.SlotTexts.{SlotTexts}
use Rattle.bpfdb_faults.specs.Streams.{Spared, Stream, Told}
use Rattle.bpfdb_jobs.specs.Connections.{ring_refusals}
use Rattle.bpfdb_jobs.specs.Conversations.{Broken, Converses, IsView, Meets, Refused, Served, conversation_line, stop_by}
use Rattle.bpfdb_jobs.specs.Origins.{stop_line}
use Rattle.bpfdb_jobs.specs.Jobs.{initial_of, unwritten_in}
use Rattle.bpfdb_jobs.specs.Scripts.{Exchanges}
use Rattle.bpfdb_jobs.specs.Streams.{Outputs}
use Rattle.bpfdb_jobs.specs.declared.job.Job.{Job}
use Rattle.bpfdb_options.specs.declared.ask.ConversationAsk.{ConversationAsk}
use Rattle.bpfdb_jobs.proofs.Refusing.{machine-session, no-places, session-refused}
use Rattle.bpfdb_jobs.proofs.conversation.conversation_job.Goals as goal

-- it was answered to its end, or broke off
ends : {R W E A : Type 0} {reader : Stream R} {s : Outputs W E} (ask : ConversationAsk) (job : Job) (loaded : Loaded) (m : Meets ask job loaded)
    (to : SessionValue RingKeeper) (r : Result A ConversationFault) (status : ℕ)
    → OnOk r (Exchanges reader s.output (AnswersAll RingHolds ring_refusals ring_room m.view m.from to))
    → IfErr r (λ why. Exchanges reader s.output (BreaksOff RingHolds ring_refusals ring_room why m.view m.from))
    → OnOk r (Spared reader × Spared s.output) → IfErr r (λ why. FailsBy why reader.old reader.new s.output.old s.output.new)
    → OnOk r ((s.errors.new ≡ s.errors.old) × (status ≡ 0)) → IfErr r (λ why. Told s.errors (conversation_line why) × (status ≡ 2))
    → Converses ask job loaded reader s status
ends ask job loaded m to (Ok v) status answers broken spared fails ok err = Served m to answers spared.0 spared.1 ok.0 ok.1
ends ask job loaded m to (Err why) status answers broken spared fails ok err = Broken m why broken fails err.0 err.1

-- the stop with its line
stop-told : (places : SlotTexts) (unwritten : Option Unwritten) (text : List ℕ) → text ≡ stop_line places unwritten
    → option_map (λ (read : Unwritten). (read.steps, text)) unwritten ≡ stop_by places unwritten
stop-told places None text e = refl
stop-told places (Some read) text e = ap (λ (t : List ℕ). Some (read.steps, t)) e

pub returns-in-Err-clause-does : goal.returns-in-Err-clause-does
returns-in-Err-clause-does g c =
    let refused = machine-session c.args.job.now c.in-Err.refusal c.in-Err.ensures.err in
    Refused c.in-Err.refusal refused refl refl (rw (session-refused c.args.job.now c.in-Err.refusal refused) at c.give_up.ensures.told) c.give_up.ensures.value

pub returns-in-Err-session_over-clause-does : goal.returns-in-Err-session_over-clause-does
returns-in-Err-session_over-clause-does g c =
    let refused = c.in-Err-session_over.ensures.err c.args.loaded.program c.in-Ok.ensures.ok.0 in
    Refused c.in-Err-session_over.refusal refused refl refl
    (rw (session-refused c.args.job.now c.in-Err-session_over.refusal refused) at c.give_up-in-Err-session_over.ensures.told)
    c.give_up-in-Err-session_over.ensures.value

pub returns-in-Err-stop_line-clause-does : goal.returns-in-Err-stop_line-clause-does
returns-in-Err-stop_line-clause-does g c =
    let o = c.in-Ok-session_over.ensures.ok c.args.loaded.program c.in-Ok.ensures.ok.0 in
    let refused = no-places c.args.job.now c.in-Err-stop_line.refusal o.room.short o.room.sized c.in-Err-stop_line.ensures.err in
    Refused c.in-Err-stop_line.refusal refused refl refl
    (rw (session-refused c.args.job.now c.in-Err-stop_line.refusal refused) at c.give_up-in-Err-stop_line.ensures.told)
    c.give_up-in-Err-stop_line.ensures.value

pub returns-in-Err-wanted_of-clause-does : goal.returns-in-Err-wanted_of-clause-does
returns-in-Err-wanted_of-clause-does g c =
    let o = c.in-Ok-session_over.ensures.ok c.args.loaded.program c.in-Ok.ensures.ok.0 in
    let refused = no-places c.args.job.now c.in-Err-wanted_of.refusal o.room.short o.room.sized c.in-Err-wanted_of.ensures in
    Refused c.in-Err-wanted_of.refusal refused refl refl
    (rw (session-refused c.args.job.now c.in-Err-wanted_of.refusal refused) at c.give_up-in-Err-wanted_of.ensures.told)
    c.give_up-in-Err-wanted_of.ensures.value

pub returns-in-Err-naming_of-clause-does : goal.returns-in-Err-naming_of-clause-does
returns-in-Err-naming_of-clause-does g c =
    let o = c.in-Ok-session_over.ensures.ok c.args.loaded.program c.in-Ok.ensures.ok.0 in
    let refused = no-places c.args.job.now c.in-Err-naming_of.refusal o.room.short o.room.sized c.in-Err-naming_of.ensures.err in
    Refused c.in-Err-naming_of.refusal refused refl refl
    (rw (session-refused c.args.job.now c.in-Err-naming_of.refusal refused) at c.give_up-in-Err-naming_of.ensures.told)
    c.give_up-in-Err-naming_of.ensures.value

pub returns-clause-does : goal.returns-clause-does
returns-clause-does g c =
    let opens = c.in-Ok.ensures.ok in
    let o = c.in-Ok-session_over.ensures.ok c.args.loaded.program opens.0 in
    let job = c.args.job.now in
    let loaded : Loaded = c.args.loaded in
    let places = c.args.known.places in
    let strict = c.args.ask.is_strict in
    let own = c.args.known.own in
    let text : c.as_slice.result.now ≡ stop_line places c.in-Ok.strict.unwritten = c.as_slice.ensures.value ∙ c.in-Ok-stop_line.ensures.ok in
    let found : c.in-Ok.strict.unwritten ≡ unwritten_in strict own job (initial_of job loaded) =
    opens.1 ∙ ap (λ (x : State). unwritten_in strict own job x) opens.0.2 in
    let v : View = record {
      asks = c.args.ask.asks;
      form = c.form_of.result;
      lines = 1000;
      names = c.as_ref.result;
      info = c.info.result;
      places = places;
      is_strict = strict;
      stop = c.stop_of.result;
    } in
    let is : IsView c.args.ask job loaded v = record {
      asks = refl;
      form = c.form_of.ensures;
      lines = refl;
      names = rw (c.as_ref-source.ensures.value, sym c.as_ref.ensures.value) at c.known_names-names.ensures;
      info = c.info.ensures.named loaded.object (rw c.as_ref-source.ensures.value at c.in-Ok-naming_of.ensures.ok);
      places = c.requires.known.places;
      strict = refl;
      stop = record {
        own = own;
        is_own = c.requires.known.own;
        told = c.stop_of.ensures ∙ stop-told places c.in-Ok.strict.unwritten c.as_slice.result.now text ∙ ap (stop_by places) found;
      };
    } in
    let m : Meets c.args.ask job loaded = record { room = o.room; view = v; is = is; from = c.in-Ok-session_over.session; begins = o.begins } in
    ends c.args.ask job loaded m c.converse-answered.new.session c.converse-answered.result c.conversation_ended.result
    c.converse-answered.ensures.value c.converse-answered.ensures.broken c.converse-answered.ensures.ok c.converse-answered.ensures.err
    c.conversation_ended.ensures.ok c.conversation_ended.ensures.err
