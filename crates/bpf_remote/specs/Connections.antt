-- What a connection comes to: turns, one after another, each of them an item of the stream with what was done and told.
use Rattle.std.specs.Prelude.{◌≡◌, ℕ, ◌-◌, Bool, true, false, if◌then◌else◌, List, [], ◌∷◌, ◌++◌, ◌⊎◌, length, Option, Some, None, Result, Ok, Err}
use lib.Chars.{codes}
use Rattle.std.specs.Option.{option_map}
use Rattle.std.specs.Result.{result_ok}
use Rattle.hex.specs.Hex.{decode_of}
use Rattle.bpf_agent.specs.Conditions.{ConditionList, with_code, without}
use Rattle.bpf_entries.specs.Keeping.{Kept}
use Rattle.bpf_steps.specs.State.{depth}
use Rattle.bpf_journal.specs.Tracks.{Track}
use Rattle.bpfdb_script.specs.Commands.{command_of}
use Rattle.bpfdb_script.specs.Refusals.{refusal_text}
use Rattle.bpfdb_script.specs.declared.command.Command.{Command}
use Rattle.bpfdb_script.specs.declared.command.Command.TheVariants as command
use Rattle.bpfdb_script.specs.declared.command.Goal.TheVariants as goal
use Rattle.bpfdb_script.specs.declared.command.Stop.TheVariants as stop
use Rattle.bpfdb_script.specs.declared.refusal.Refusal.{Refusal}
use Rattle.bpf_session.specs.declared.reply.Reply.{Reply}
use Rattle.bpf_session.specs.Output.{is_quit}
use Rattle.bpf_session.specs.Replies.{text_of_answer}
use Rattle.bpf_session.specs.Sessions.{SessionValue, HasPast, bounds_of, point_of}
use Rattle.bpf_session.specs.WatchRuns.{SetsWatches, with_run, without_run}
use Rattle.bpf_origin.specs.declared.fault.WhatFault.{WhatFault}
use Rattle.bpf_origin.specs.declared.what.What.{What}
use Rattle.bpf_remote.specs.Numbers.{behind, hex_text}
use Rattle.bpf_remote.specs.Origins.{Shows, TellsOrigin, asked_in}
use Rattle.bpf_remote.specs.Whynots.{TellsWhynot, asks_whynot}
use Rattle.bpf_remote.specs.Packets.{framed, IsItem}
use Rattle.bpf_remote.specs.Requests.{request_of}
use Rattle.bpf_remote.specs.Answers.{answer_of_set, error_text, halt_of_status, sent, text_of}
use Rattle.bpf_remote.specs.Help.{asks_help, help_text}
use Rattle.bpf_remote.specs.Moves.{moves_after}
use Rattle.bpf_remote.specs.Ways.{Goes, Obeyed, wants_again}
use Rattle.bpf_remote.specs.Remarks.{console_text, is_told, remark_of, remark_text}
use Rattle.bpf_remote.specs.declared.answer.Answer.{Answer}
use Rattle.bpf_remote.specs.declared.answer.Answer.TheVariants as answer
use Rattle.bpf_remote.specs.declared.manners.Manners.{Manners}
use Rattle.bpf_remote.specs.declared.remark.Remark.{Remark}
use Rattle.bpf_remote.specs.declared.request.Request.{Request}
use Rattle.bpf_remote.specs.declared.request.Request.TheVariants as request
use Rattle.bpf_remote.specs.declared.stream.Item.{Item}
use Rattle.bpf_remote.specs.declared.stream.Item.TheVariants as item

-- A connection: the session, how gdb is talked to, and the body of the last answer, none at first.
pub record Place (K : Type 0) : Type 0 where
  pub session : SessionValue K
  pub manners : Manners
  pub last : List ℕ

-- The same between turns, with the conditions of breakpoints that gdb has sent.
pub record Desk (K : Type 0) : Type 0 where
  pub place : Place K
  pub conditions : ConditionList

-- The answer to a request that asks and changes nothing.
abbrev pub answer_to : {K : Type 0} → Request → SessionValue K → Answer
answer_to request.Stop s = answer.Halted (halt_of_status false s.moment.state.status)
answer_to request.Registers s = answer.Registers
answer_to (request.Register n) s = answer.Register n
answer_to (request.Memory address count) s = answer.Memory address count
answer_to (request.Supported swbreak) s = answer.Supported
answer_to (request.Description offset count) s = answer.Description offset count
answer_to request.Attached s = answer.Attached
answer_to request.Actions s = answer.Actions
answer_to request.Wrong s = answer.Error 2
answer_to request.Unknown s = answer.Empty
answer_to _ s = answer.Done

-- How gdb is talked to behind a request, before whose state so many moves lie then.
abbrev pub manners_after : Request → ℕ → Manners → Manners
manners_after request.Silence moves m = record m { acknowledges = false; moves = moves }
manners_after (request.Supported swbreak) moves m = record m { swbreak = swbreak; moves = moves }
manners_after _ moves m = record m { moves = moves }

-- The conditions behind a request that was answered: a breakpoint that was set has the one that came with it, or none, and so has one that is
-- taken away none.
abbrev pub conditions_after : Request → Answer → ConditionList → ConditionList
conditions_after (request.Break slot (Some code)) answer.Done cs = with_code slot code cs
conditions_after (request.Break slot None) answer.Done cs = without slot cs
conditions_after (request.Set (command.Remove (stop.Breakpoint slot))) told cs = without slot cs
conditions_after _ told cs = cs

-- Whether the connection goes on behind a request, and whether it is answered.
abbrev pub goes_on : Request → Bool
goes_on request.Leave = false
goes_on request.Kill = false
goes_on _ = true

abbrev pub is_answered : Request → Bool
is_answered request.Kill = false
is_answered _ = true

-- The packet of a line for gdb's user, where there is one; that it is left out only where the line doesn't fit a packet isn't said.
abbrev pub IsConsole : Bool → List ℕ → List ℕ → Type 0
IsConsole false line text = text ≡ []
IsConsole true line text = (text ≡ framed (console_text line)) ⊎ (text ≡ [])

-- A packet is acknowledged.
abbrev pub acknowledgement : Manners → List ℕ
acknowledgement m = if m.acknowledges then 43 ∷ [] else []

-- The packet of an answer.
abbrev pub packet : Bool → List ℕ → List ℕ
packet answered body = if answered then framed (sent body) else []

-- A line of a script is answered by what it prints, in hexadecimal, or by an error where that is too long; by `OK` where it prints nothing.
abbrev pub Tells : List ℕ → List ℕ → Type 0
Tells text body = (body ≡ hex_text text) ⊎ (body ≡ error_text 16)

-- What the line says that hexadecimal digits spell.
abbrev pub line_of : List ℕ → Option (Result (Option Command) Refusal)
line_of digits = option_map command_of (result_ok (decode_of digits))

module _ {K : Type 0} (holds : K → List Kept → Type 0) (refusals room : K → ℕ) where
  -- A session, before whose state so many moves lie, obeyed a command, and is answered by whether it did.
  abbrev pub Sets : SessionValue K × ℕ → SessionValue K × ℕ → Command → Answer → Type 0
  Sets old new command told = (said : Result Reply Refusal) × Obeyed holds refusals room old.0 new.0 command said
      × (told ≡ answer_of_set said) × (new.1 ≡ moves_after said command old.1)

  -- It was let go by a command that a request may want again.
  abbrev pub Moves : SessionValue K × ℕ → SessionValue K × ℕ → Request → ConditionList → Command → Answer → Type 0
  Moves old new r cs command told =
      Goes holds refusals room command (wants_again r cs (depth old.0.moment.state)) old new told

  -- A request is answered as the session answers the command that it stands for, which makes some moves or takes some back; one that stands
  -- for none changes nothing.
  abbrev pub Answers : SessionValue K × ℕ → SessionValue K × ℕ → Request → ConditionList → Answer → Type 0
  Answers old new (request.Move command) cs told = Moves old new (request.Move command) cs command told
  Answers old new (request.Range from to) cs told = Moves old new (request.Range from to) cs (command.Forward (goal.Steps 1)) told
  Answers old new (request.Set command) cs told = Sets old new command told
  Answers old new (request.Break slot condition) cs told = Sets old new (command.Add (stop.Breakpoint slot)) told
  Answers old new (request.Watch run) cs told = (said : Result (Unit {0}) Refusal)
      × SetsWatches old.0 new.0 (with_run run old.0.watches old.0.moment.state) said × (told ≡ answer_of_set said) × (new.1 ≡ old.1)
  Answers old new (request.Unwatch run) cs told = (said : Result (Unit {0}) Refusal)
      × SetsWatches old.0 new.0 (without_run run old.0.watches) said × (told ≡ answer_of_set said) × (new.1 ≡ old.1)
  Answers old new r cs told = (new.0 ≡ old.0) × (told ≡ answer_to r old.0) × (new.1 ≡ old.1)

  abbrev pub ObeysCommand : SessionValue K → SessionValue K → Command → Bool → List ℕ → ℕ → ℕ → Type 0
  ObeysCommand old new command true body moves now = (new ≡ old) × (body ≡ codes "OK") × (now ≡ moves)
  ObeysCommand old new command false body moves now = (said : Result Reply Refusal) × Obeyed holds refusals room old new command said
      × ((t : Track) → HasPast holds new t → Tells (text_of_answer (bounds_of room new) said (point_of new t)) body)
      × (now ≡ moves_after said command moves)

  abbrev pub ObeysLine : SessionValue K → SessionValue K → Option (Result (Option Command) Refusal) → List ℕ → ℕ → ℕ → Type 0
  ObeysLine old new None body moves now = (new ≡ old) × (body ≡ error_text 2) × (now ≡ moves)
  ObeysLine old new (Some (Ok None)) body moves now = (new ≡ old) × (body ≡ codes "OK") × (now ≡ moves)
  ObeysLine old new (Some (Err refusal)) body moves now = (new ≡ old) × Tells (refusal_text refusal) body × (now ≡ moves)
  ObeysLine old new (Some (Ok (Some command))) body moves now = ObeysCommand old new command (is_quit command) body moves now

  -- A line asks for help, or is one of a script.
  abbrev pub Heeds : SessionValue K → SessionValue K → Bool → List ℕ → List ℕ → ℕ → ℕ → Type 0
  Heeds old new true digits body moves now = (new ≡ old) × (body ≡ hex_text help_text) × (now ≡ moves)
  Heeds old new false digits body moves now = ObeysLine old new (line_of digits) body moves now

  -- What is told beside the answer to a request. Moves that were made, and are neither kept nor taken back, were dropped.
  abbrev pub Remarked : SessionValue K → Request → Answer → ℕ → Remark → Type 0
  Remarked s r told moves remark = (t : Track) → HasPast holds s t → remark ≡ remark_of r told s.moment.state s.limit (moves - length t.history)

  -- A packet with this body was answered.
  abbrev pub DoesPlaced : Place K → Place K → Request → ConditionList → Answer → List ℕ → Bool → Type 0
  DoesPlaced old new r cs answer told on = (moves : ℕ) × Answers (old.session, old.manners.moves) (new.session, moves) r cs answer
      × (new.manners ≡ manners_after r moves old.manners)
      × (new.last ≡ text_of new.manners new.session.moment.state answer)
      × (remark : Remark) × Remarked new.session r answer moves remark
      × (console : List ℕ) × IsConsole (is_told remark) (remark_text remark new.session.moment.state) console
      × (told ≡ acknowledgement old.manners ++ console ++ packet (is_answered r) new.last) × (on ≡ goes_on r)

  abbrev pub DoesRequest : Desk K → Desk K → Request → List ℕ → Bool → Type 0
  DoesRequest old new r told on = (answer : Answer) × DoesPlaced old.place new.place r old.conditions answer told on
      × (new.conditions ≡ conditions_after r answer old.conditions)

  -- A line is answered in packets for gdb's user, behind which `OK` stands. Some of the moves before the state may then be left out.
  abbrev pub DoesShow : Place K → Place K → (ℕ → List ℕ → Type 0) → List ℕ → Bool → Type 0
  DoesShow old new tells told on = (left : ℕ) × (text console : List ℕ) × Shows text console × tells left text
      × (new.manners ≡ record old.manners { moves = old.manners.moves - left }) × (new.last ≡ codes "OK")
      × (told ≡ acknowledgement old.manners ++ console ++ framed (sent new.last)) × (on ≡ true)

  -- So is a line that asks where a value came from, or why a slot was not come to; any other one is answered in one packet.
  abbrev pub DoesAsked : Place K → Place K → Option (Result (Option What) WhatFault) → List ℕ → List ℕ → Bool → Type 0
  DoesAsked old new None digits told on = (moves : ℕ) × Heeds old.session new.session (asks_help digits) digits new.last old.manners.moves moves
      × (new.manners ≡ record old.manners { moves = moves })
      × (told ≡ acknowledgement old.manners ++ framed (sent new.last)) × (on ≡ true)
  DoesAsked old new (Some asked) digits told on =
      DoesShow old new (TellsOrigin holds refusals room old.manners asked old.session new.session) told on

  abbrev pub DoesWhy : Place K → Place K → Option (List ℕ) → List ℕ → List ℕ → Bool → Type 0
  DoesWhy old new None digits told on = DoesAsked old new (asked_in old.session.moment.state digits) digits told on
  DoesWhy old new (Some asked) digits told on =
      DoesShow old new (TellsWhynot holds refusals room old.manners asked old.session new.session) told on

  abbrev pub DoesLine : Place K → Place K → List ℕ → List ℕ → Bool → Type 0
  DoesLine old new digits told on = DoesWhy old new (asks_whynot digits) digits told on

  -- A line may set breakpoints and remove them: no condition is kept behind it.
  abbrev pub DoesBody : Desk K → Desk K → List ℕ → Option (List ℕ) → List ℕ → Bool → Type 0
  DoesBody old new body None told on = DoesRequest old new (request_of body) told on
  DoesBody old new body (Some digits) told on = DoesLine old.place new.place digits told on × (new.conditions ≡ [])

  -- What was done and told for an item: a damaged packet is answered by `-`, and the wish to have an answer again by the last one.
  abbrev pub Does : Desk K → Desk K → Item → List ℕ → List ℕ → Bool → Type 0
  Does old new item.Packet body told on = DoesBody old new body (behind (codes "qRcmd,") body) told on
  Does old new item.Damaged body told on = (new ≡ old) × (told ≡ codes "-") × (on ≡ true)
  Does old new item.Again body told on = (new ≡ old) × (told ≡ framed (sent old.place.last)) × (on ≡ true)
  Does old new item.End body told on = ⊥

  -- A turn: the bytes that were read, what they are, what was told, whether the connection goes on, and where it then is.
  pub record Turn : Type 0 where
    pub read : List ℕ
    pub said : Item
    pub body : List ℕ
    pub told : List ℕ
    pub on : Bool
    pub after : Desk K

  abbrev pub IsTurn : Desk K → Turn → Type 0
  IsTurn from t = IsItem t.said t.read (record { bytes = t.body; is_long = false }) × Does from t.after t.said t.body t.told t.on

  -- Turns, the newest first: where they lead, what was read in them and what was told.
  abbrev pub end_of : Desk K → List Turn → Desk K
  end_of from [] = from
  end_of from (t ∷ ts) = t.after

  abbrev pub read_in : List Turn → List ℕ
  read_in [] = []
  read_in (t ∷ ts) = read_in ts ++ t.read

  abbrev pub told_in : List Turn → List ℕ
  told_in [] = []
  told_in (t ∷ ts) = told_in ts ++ t.told

  -- The connection goes on behind them.
  abbrev pub GoOn : List Turn → Type 0
  GoOn [] = Unit {0}
  GoOn (t ∷ ts) = t.on ≡ true

  abbrev pub AreTurns : Desk K → List Turn → Type 0
  AreTurns from [] = Unit {0}
  AreTurns from (t ∷ ts) = IsTurn (end_of from ts) t × GoOn ts × AreTurns from ts
