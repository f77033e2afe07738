-- What is said to a line, as its parts say it.
use Rattle.std.proofs.Common.{◌≡◌, ◌<◌, ◌-◌, ℕ, Bool, true, false, List, Option, Some, None, Result, Ok, Err, IfOk, length, ap, refl, sym, subst, ◌∙◌}
use Rattle.std.proofs.lemmas.Bool.{lt-ltb}
use Rattle.bpf_entries.specs.Keeping.{Kept}
use Rattle.bpf_journal.specs.Tracks.{Track}
use Rattle.bpf_lines.specs.DebugInfos.{AsksSlots}
use Rattle.bpf_remote.specs.Origins.{ComesBack, named_by}
use Rattle.bpf_session.specs.Sessions.{HasPast, SessionValue}
use Rattle.bpf_whynot.specs.Aims.{AimsAt}
use Rattle.bpf_whynot.specs.Answers.{why_not}
use Rattle.bpf_whynot.specs.Asked.{Goals, goals_in}
use Rattle.bpf_whynot.specs.Tables.{told_by}
use Rattle.bpf_whynot.specs.declared.aim.Aim.{Aim}
use Rattle.bpf_whynot.specs.declared.fault.GoalFault.{GoalFault}
use Rattle.bpfdb_script.proofs.Lines.{command_of-long}
use Rattle.bpfdb_script.specs.Commands.{Answer}
use Rattle.bpfdb_script.specs.Limits.{longest_line}
use Rattle.bpfdb_script.specs.Refusals.{refusal_text}
use Rattle.bpfdb_script.specs.declared.refusal.Refusal.TheVariants.{LineTooLong}
use Rattle.bpf_questions.specs.Conversations.{AnswersInquiry, AnswersSlots, AnswersWhynot, Hears, HearsAs, ObeysLine, Said, Stand, query_of, says}
use Rattle.counted_io.specs.Counted.{Tally}
use Rattle.bpf_questions.specs.Failures.{Counts}
use Rattle.bpf_questions.specs.Hearing.{TellsLine, said_of}
use Rattle.bpf_questions.specs.Messages.{WritesMessage, message_text}
use Rattle.bpf_questions.specs.declared.fault.ConversationFault.{ConversationFault}
use Rattle.bpf_questions.specs.declared.fault.ConversationFault.TheVariants.{Read, Write, Memory}
use Rattle.bpf_questions.specs.declared.message.Kind.{Kind}
use Rattle.bpf_questions.specs.Inquiries.{asked_in, inquiry_of, what_by}
use Rattle.bpf_questions.specs.declared.inquiry.Topic.{Topic}
use Rattle.bpf_questions.specs.declared.message.Kind.TheVariants as kind
use Rattle.bpf_questions.specs.declared.obeying.Heard.{Heard}
use Rattle.bpf_questions.specs.declared.stop.Past.{Past}
use Rattle.bpf_questions.specs.declared.view.View.{View}

-- a message that wasn't written counts its failure
pub counts-unwritten : {W : Type 0} (contents : W → Option (List ℕ)) (old new : Tally W) (why : ConversationFault) (text : List ℕ)
    → WritesMessage {A = Unit {0}} contents old new (Err why) text → Counts {A = Option Past} (Err why) old new
counts-unwritten contents old new Write text w = w.fault
counts-unwritten {W = W} contents old new Memory text w = ap (λ (t : Tally W). t.failures) w
counts-unwritten contents old new Read text w = absurd w

-- a line that is too long asks nothing
asked-long : (asks : Bool) (line : List ℕ) → longest_line < length line → asked_in asks line ≡ None
asked-long true line long = rw (lt-ltb longest_line (length line) long) refl
asked-long false line long = refl

module _ {K : Type 0} (holds : K → List Kept → Type 0) (refusals room : K → ℕ) (v : View) where
  -- and is refused
  pub hears-long : (s : Stand holds refusals room) (line : List ℕ) (said : Said) → longest_line < length line
      → said ≡ says kind.Refused (refusal_text LineTooLong) → Hears holds refusals room v s s line said
  hears-long s line said long is =
      let obeys : ObeysLine holds refusals room v s s (Err LineTooLong) said = (refl, is) in
      let by-line = subst (λ (a : Answer). ObeysLine holds refusals room v s s a said) (sym (command_of-long line long)) obeys in
      subst (λ (asked : Option (Topic × List (List ℕ))). HearsAs holds refusals room v s s asked line said) (sym (asked-long v.asks line long)) by-line

  -- a question
  hears-asked : (old new : Stand holds refusals room) (line : List ℕ) (topic : Topic) (words : List (List ℕ)) (said : Said) → v.asks ≡ true
      → Some (topic, words) ≡ inquiry_of line → AnswersInquiry holds refusals room v old new topic (what_by words) said → Hears holds refusals room v old new line said
  hears-asked old new line topic words said asks is answers =
      let asked : asked_in v.asks line ≡ Some (topic, words) = rw asks (sym is) in
      subst (λ (asked : Option (Topic × List (List ℕ))). HearsAs holds refusals room v old new asked line said) (sym asked) answers

  pub hears-inquiry : {E : Type 0} (r : Result (Heard × Past) E) (old : Stand holds refusals room) (new : SessionValue K) (topic : Topic) (words : List (List ℕ))
      (P : List ℕ → Type 0) → v.asks ≡ true → ((line : List ℕ) → P line → Some (topic, words) ≡ inquiry_of line)
      → IfOk r (λ heard. AnswersInquiry holds refusals room v old (new, heard.1) topic (what_by words) (said_of heard.0))
      → IfOk r (λ heard. (line : List ℕ) → P line → Hears holds refusals room v old (new, heard.1) line (said_of heard.0))
  hears-inquiry (Ok heard) old new topic words P asks is answers = λ line held. hears-asked old (new, heard.1) line topic words (said_of heard.0) asks (is line held) answers
  hears-inquiry (Err fault) old new topic words P asks is answers = tt

  -- why a slot was not come to
  pub answers-slots : {E : Type 0} (r : Result (Heard × Past) E) (old : Stand holds refusals room) (new : SessionValue K) (what asked text : List ℕ) (aim : Aim) (left : ℕ)
      → (aims : AimsAt holds old.0.moment.keeper old.0.moment.state asked aim) → ComesBack holds refusals room old.0 new left
      → ((t : Track) → HasPast holds old.0 t → text ≡ (why_not (told_by aim.reach) (query_of v old.1.moves aims.0 t old.0.moment.state) t.history old.0.moment.state).text)
      → IfOk r (λ heard. (said_of heard.0 ≡ says kind.Answer (named_by v.names text)) × (heard.1 ≡ record old.1 { moves = old.1.moves - left }))
      → IfOk r (λ heard. AnswersSlots holds refusals room v old (new, heard.1) what (goals_in old.0.moment.state.program asked) (said_of heard.0))
  answers-slots (Ok heard) old new what asked text aim left aims back texts (is, moves) =
      subst (λ (goals : Result Goals GoalFault). AnswersSlots holds refusals room v old (new, heard.1) what goals (said_of heard.0)) (sym aims.1) (
        told_by aim.reach,
        (λ t past. (aims.2 t.history past.history).tells),
        record {
          left = left;
          back = back;
          moves = moves;
          tells = λ t past. is ∙ ap (λ (x : List ℕ). says kind.Answer (named_by v.names x)) (texts t past);
        },
      )
  answers-slots (Err fault) old new what asked text aim left aims back texts is = tt

  -- of the slots that a text asks about
  pub answers-whynot : {E : Type 0} (r : Result (Heard × Past) E) (old : Stand holds refusals room) (new : SessionValue K) (text slots : List ℕ)
      → AsksSlots v.info text slots
      → IfOk r (λ heard. AnswersSlots holds refusals room v old (new, heard.1) text (goals_in old.0.moment.state.program slots) (said_of heard.0))
      → IfOk r (λ heard. AnswersWhynot holds refusals room v old (new, heard.1) text (said_of heard.0))
  answers-whynot (Ok heard) old new text slots asks answers = (slots, asks, answers)
  answers-whynot (Err fault) old new text slots asks answers = tt

  -- what wasn't written
  pub tells-unwritten : {W : Type 0} (contents : W → Option (List ℕ)) (why : ConversationFault) (old : Stand holds refusals room) (new : SessionValue K)
      (past : Past) (number : ℕ) (line text : List ℕ) (k : Kind) (before after : Tally W) → Hears holds refusals room v old (new, past) line (says k text)
      → WritesMessage {A = Unit {0}} contents before after (Err why) (message_text v.form number k text)
      → TellsLine holds refusals room contents v old new number line (before, after) (Err why)
  tells-unwritten contents Write old new past number line text k before after h w = (past, says k text, h, w)
  tells-unwritten contents Memory old new past number line text k before after h w = w
  tells-unwritten contents Read old new past number line text k before after h w = w
