-- What a session that is asked comes to: what each line leaves of it and what it is told, and all lines of a script, one after another.
use Rattle.std.specs.Prelude.{◌≡◌, ◌==◌, ℕ, ◌+◌, ◌-◌, Bool, true, false, List, [], ◌∷◌, ◌++◌, ◌⊎◌, length, Option, Some, None, Result, Ok, Err}
use Rattle.bpf_entries.specs.Keeping.{Kept}
use Rattle.bpf_journal.specs.Tracks.{Track}
use Rattle.bpf_lines.specs.DebugInfos.{AsksSlots}
use Rattle.bpf_steps.specs.State.{State}
use Rattle.bpf_origin.specs.Asked.{answer_about, parts_asked, what_in}
use Rattle.bpf_origin.specs.declared.fault.WhatFault.{WhatFault}
use Rattle.bpf_origin.specs.declared.question.Question.{Question}
use Rattle.bpf_origin.specs.declared.what.What.{What}
use Rattle.bpf_remote.specs.Moves.{counted}
use Rattle.bpf_remote.specs.Origins.{ComesBack, named_by, what_refusal}
use Rattle.bpf_session.specs.Meaning.{does}
use Rattle.bpf_session.specs.Output.{is_quit}
use Rattle.bpf_session.specs.Runs.{Exchange, Leaves, Wrote}
use Rattle.bpf_session.specs.Sessions.{HasPast, Obeys, SessionValue, bounds_of, point_of}
use Rattle.bpf_session.specs.declared.reply.Reply.{Reply}
use Rattle.bpf_whynot.specs.Answers.{Query, why_not}
use Rattle.bpf_whynot.specs.Asked.{Goals, goals_in}
use Rattle.bpf_whynot.specs.Makings.{goals_left, made_last}
use Rattle.bpf_whynot.specs.Reach.{TellsReach}
use Rattle.bpf_whynot.specs.declared.fault.GoalFault.{GoalFault}
use Rattle.bpfdb_script.specs.Commands.{Answer, command_of}
use Rattle.bpfdb_script.specs.Refusals.{refusal_text}
use Rattle.bpfdb_script.specs.declared.command.Command.{Command}
use Rattle.bpfdb_script.specs.declared.refusal.Refusal.{Refusal}
use Rattle.counted_io.specs.Lines.{lines}
use Rattle.bpf_questions.specs.Inquiries.{asked_in, what_by}
use Rattle.bpf_questions.specs.Refusals.{goal_refusal}
use Rattle.bpf_questions.specs.Messages.{message_text}
use Rattle.bpf_questions.specs.Strict.{ahead, answer_text, behind, bounded, past_after, there}
use Rattle.bpf_questions.specs.declared.fault.ConversationFault.{ConversationFault}
use Rattle.bpf_questions.specs.declared.fault.ConversationFault.TheVariants as fault
use Rattle.bpf_questions.specs.declared.inquiry.Topic.{Topic}
use Rattle.bpf_questions.specs.declared.inquiry.Topic.TheVariants as topic
use Rattle.bpf_questions.specs.declared.message.Kind.{Kind}
use Rattle.bpf_questions.specs.declared.message.Kind.TheVariants as kind
use Rattle.bpf_questions.specs.declared.stop.Past.{Past}
use Rattle.bpf_questions.specs.declared.view.View.{View}

-- What is said to a line, if anything is, and whether the session goes on.
pub record Said : Type 0 where
  pub message : Option (Kind × List ℕ)
  pub on : Bool

abbrev pub says : Kind → List ℕ → Said
says kind text = record { message = Some (kind, text); on = true }

abbrev pub nothing : Said
nothing = record { message = None; on = true }

abbrev pub ends : Said
ends = record { message = None; on = false }

-- A command's answer is a reply, or a refusal.
abbrev pub kind_of : Result Reply Refusal → Kind
kind_of (Ok reply) = kind.Reply
kind_of (Err refusal) = kind.Refused

-- What `origin` asks: about a text, or, where there is none, about what is of interest where the machine stands.
abbrev pub some_what : Result What WhatFault → Result (Option What) WhatFault
some_what (Ok what) = Ok (Some what)
some_what (Err fault) = Err fault

abbrev pub what_asked : State → List ℕ → Result (Option What) WhatFault
what_asked x [] = Ok None
what_asked x (byte ∷ bytes) = some_what (what_in x (byte ∷ bytes))

-- How it is asked, where so many moves lie before the state. The oldest kept state is the opening where each of them is kept.
abbrev pub question_of : View → ℕ → Track → Question
question_of v moves t = record { addresses = false; lines = v.lines; opening = length t.history == moves; places = v.places }

abbrev pub query_of : View → ℕ → Goals → Track → State → Query
query_of v moves goals t x = record {
  goals = goals_left goals t.history;
  made = made_last goals t.history x;
  question = question_of v moves t;
  alone = false;
}

-- The texts of the answers, with the names that are known.
abbrev pub origin_text : View → ℕ → Option What → Track → State → List ℕ
origin_text v moves what t x = named_by v.names (answer_about (question_of v moves t) (parts_asked x what) t.history x).text

abbrev pub whynot_text : View → ℕ → (ℕ → List ℕ → Bool) → Goals → Track → State → List ℕ
whynot_text v moves can goals t x = named_by v.names (why_not can (query_of v moves goals t x) t.history x).text

module _ {K : Type 0} (holds : K → List Kept → Type 0) (refusals room : K → ℕ) where
  -- A session, with what lies before its state.
  abbrev pub Stand : Type 0
  Stand = SessionValue K × Past

  -- A command is obeyed, or refused, by a forward command with no more steps than there are to the stop of a strict session.
  abbrev pub ObeysBefore : Option ℕ → SessionValue K → SessionValue K → Command → Result Reply Refusal → Type 0
  ObeysBefore steps old new command answer = Obeys holds refusals room old new (λ gap. does gap (bounded steps (bounds_of room old)) command) answer

  abbrev pub reply_text : View → Past → SessionValue K → Command → Result Reply Refusal → Track → List ℕ
  reply_text v past new command answer t =
      answer_text (there (ahead v past) answer) (bounds_of room new) answer (point_of new t) ++ behind v past command answer

  abbrev pub ObeysCommand : View → Stand → Stand → Command → Bool → Said → Type 0
  ObeysCommand v old new command true said = (new ≡ old) × (said ≡ ends)
  ObeysCommand v old new command false said = (answer : Result Reply Refusal) × ObeysBefore (ahead v old.1) old.0 new.0 command answer
      × (new.1 ≡ past_after answer command old.1)
      × ((t : Track) → HasPast holds new.0 t → said ≡ says (kind_of answer) (reply_text v old.1 new.0 command answer t))

  abbrev pub ObeysLine : View → Stand → Stand → Answer → Said → Type 0
  ObeysLine v old new (Ok None) said = (new ≡ old) × (said ≡ nothing)
  ObeysLine v old new (Ok (Some command)) said = ObeysCommand v old new command (is_quit command) said
  ObeysLine v old new (Err refusal) said = (new ≡ old) × (said ≡ says kind.Refused (refusal_text refusal))

  -- A question is refused, or answered from the kept history; the session stands then where it stood, but for moves that its keeper refused to keep
  -- again, of which a ring refuses none.
  abbrev pub Refuses : Stand → Stand → List ℕ → Said → Type 0
  Refuses old new text said = (new ≡ old) × (said ≡ says kind.Refused text)

  pub record Answers (old new : Stand) (text : Track → List ℕ) (said : Said) : Type 0 where
    pub left : ℕ
    pub back : ComesBack holds refusals room old.0 new.0 left
    pub moves : new.1 ≡ record old.1 { moves = old.1.moves - left }
    pub tells : (t : Track) → HasPast holds old.0 t → said ≡ says kind.Answer (text t)

  abbrev pub AnswersOrigin : View → Stand → Stand → Result (Option What) WhatFault → Said → Type 0
  AnswersOrigin v old new (Err fault) said = Refuses old new (what_refusal fault) said
  AnswersOrigin v old new (Ok what) said = Answers old new (λ t. origin_text v old.1.moves what t old.0.moment.state) said

  -- About the slots that a text names, or why it names none.
  abbrev pub AnswersSlots : View → Stand → Stand → List ℕ → Result Goals GoalFault → Said → Type 0
  AnswersSlots v old new text (Err fault) said = Refuses old new (goal_refusal fault text) said
  AnswersSlots v old new text (Ok goals) said = (can : ℕ → List ℕ → Bool)
      × ((t : Track) → HasPast holds old.0 t → TellsReach old.0.moment.state.program (goals_left goals t.history) can)
      × Answers old new (λ t. whynot_text v old.1.moves can goals t old.0.moment.state) said

  abbrev pub AnswersWhynot : View → Stand → Stand → List ℕ → Said → Type 0
  AnswersWhynot v old new text said = (slots : List ℕ) × AsksSlots v.info text slots
      × AnswersSlots v old new text (goals_in old.0.moment.state.program slots) said

  abbrev pub AnswersAbout : View → Stand → Stand → Topic → List ℕ → Said → Type 0
  AnswersAbout v old new topic.Origin text said = AnswersOrigin v old new (what_asked old.0.moment.state text) said
  AnswersAbout v old new topic.Whynot text said = AnswersWhynot v old new text said

  abbrev pub AnswersInquiry : View → Stand → Stand → Topic → Result (List ℕ) Refusal → Said → Type 0
  AnswersInquiry v old new topic (Err refusal) said = Refuses old new (refusal_text refusal) said
  AnswersInquiry v old new topic (Ok text) said = AnswersAbout v old new topic text said

  -- A line is a question, or is obeyed as a script's.
  abbrev pub HearsAs : View → Stand → Stand → Option (Topic × List (List ℕ)) → List ℕ → Said → Type 0
  HearsAs v old new None line said = ObeysLine v old new (command_of line) said
  HearsAs v old new (Some inquiry) line said = AnswersInquiry v old new inquiry.0 (what_by inquiry.1) said

  abbrev pub Hears : View → Stand → Stand → List ℕ → Said → Type 0
  Hears v old new line said = HearsAs v old new (asked_in v.asks line) line said

  -- What is written for it, as the line of this number. Lines are counted up to 2^64 - 1.
  abbrev pub told : View → ℕ → Option (Kind × List ℕ) → List ℕ
  told v number None = []
  told v number (Some message) = message_text v.form number message.0 message.1

  -- Lines behind so many that were read, none of which ends the session: where they lead, and what is written for them.
  abbrev pub HearsAll : View → Stand → Stand → ℕ → List (List ℕ) → List ℕ → Type 0
  HearsAll v old new count [] text = (new ≡ old) × (text ≡ [])
  HearsAll v old new count (line ∷ lines) text = (next : Stand) × (said : Said) × Hears v old next line said × (said.on ≡ true)
      × (more : List ℕ) × HearsAll v next new (count + 1) lines more × (text ≡ told v (counted (count + 1)) said.message ++ more)

  -- A script was answered up to its end, or to a line that ends the session, behind which the lines are left.
  abbrev pub Finishes : View → Stand → SessionValue K → List (List ℕ) → Exchange → Type 0
  Finishes v at to done x = ((lines x.script ≡ done) × (at.0 ≡ to) × Leaves x [])
      ⊎ ((line : List ℕ) × (more : List (List ℕ)) × (past : Past) × (lines x.script ≡ done ++ line ∷ more) × Hears v at (to, past) line ends × Leaves x more)

  -- Nothing lies before the first line.
  abbrev pub opened : SessionValue K → Stand
  opened from = (from, record { moves = 0; edit = None })

  abbrev pub AnswersAll : View → SessionValue K → SessionValue K → Exchange → Type 0
  AnswersAll v from to x = (done : List (List ℕ)) × (at : Stand) × (text : List ℕ) × HearsAll v (opened from) at 0 done text × Wrote x text
      × Finishes v at to done x

  -- A read or a write failed, or memory ran out: the first lines were answered. Where a write failed a beginning of the reply to the next one was
  -- written, too.
  abbrev pub StopsBy : ConversationFault → View → Stand → ℕ → List (List ℕ) → List ℕ → Exchange → Type 0
  StopsBy fault.Read v at count left text x = Wrote x text
  StopsBy fault.Memory v at count left text x = Wrote x text
  StopsBy fault.Write v at count left text x = (line : List ℕ) × (more : List (List ℕ)) × (left ≡ line ∷ more)
      × (next : Stand) × (said : Said) × Hears v at next line said
      × (part rest : List ℕ) × (told v (counted (count + 1)) said.message ≡ part ++ rest) × Wrote x (text ++ part)

  abbrev pub BreaksOff : ConversationFault → View → SessionValue K → Exchange → Type 0
  BreaksOff why v from x = (done left : List (List ℕ)) × (lines x.script ≡ done ++ left) × (at : Stand) × (text : List ℕ)
      × HearsAll v (opened from) at 0 done text × StopsBy why v at (length done) left text x
