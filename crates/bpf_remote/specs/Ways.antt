-- The ways that gdb lets the machine go: a command of the session, given again behind what gdb doesn't want to hear of.
use Rattle.std.specs.Prelude.{◌≡◌, ℕ, ◌+◌, ◌*◌, ◌<◌, ◌≤◌, ◌==◌, ◌&&◌, ◌||◌, ◌⊎◌, nat_le, nat_lt, max, is_none, Bool, true, false, List, [], ◌∷◌, Option, Result, Ok}
use Rattle.bpf_agent.specs.Conditions.{ConditionList, is_false}
use Rattle.bpf_entries.specs.Keeping.{Kept}
use Rattle.bpf_steps.specs.State.{State, depth}
use Rattle.bpfdb_script.specs.declared.command.Command.{Command}
use Rattle.bpfdb_script.specs.declared.command.Command.TheVariants as command
use Rattle.bpfdb_script.specs.declared.command.Goal.TheVariants as goal
use Rattle.bpfdb_script.specs.declared.command.Target.TheVariants as target
use Rattle.bpfdb_script.specs.declared.refusal.Refusal.{Refusal}
use Rattle.bpfdb_script.specs.declared.why.Why.TheVariants as why
use Rattle.bpf_session.specs.declared.reply.Reply.{Reply}
use Rattle.bpf_session.specs.declared.reply.Reply.TheVariants as reply
use Rattle.bpf_session.specs.Meaning.{does}
use Rattle.bpf_session.specs.Sessions.{SessionValue, Obeys, bounds_of}
use Rattle.bpf_session.specs.WatchRuns.{first_changed, seen_at}
use Rattle.bpf_remote.specs.Answers.{answer_of_move}
use Rattle.bpf_remote.specs.Moves.{counted, moves_after}
use Rattle.bpf_remote.specs.declared.answer.Answer.{Answer}
use Rattle.bpf_remote.specs.declared.answer.Answer.TheVariants as answer
use Rattle.bpf_remote.specs.declared.answer.Halt.TheVariants as halt
use Rattle.bpf_remote.specs.declared.request.Request.{Request}
use Rattle.bpf_remote.specs.declared.request.Request.TheVariants as request

-- Whether a command goes on until something stops the machine.
abbrev pub runs : Command → Bool
runs (command.Forward goal.Continue) = true
runs _ = false

-- Whether a command stopped at a breakpoint, and whether it made the steps that it was given for.
abbrev pub is_break : Result Reply Refusal → Bool
is_break (Ok (reply.Forward steps why.Break)) = true
is_break (Ok (reply.Back moves why.Break)) = true
is_break _ = false

abbrev pub is_done : Result Reply Refusal → Bool
is_done (Ok (reply.Forward steps why.Done)) = true
is_done _ = false

-- How many moves it made or took back.
abbrev pub moves_of : Result Reply Refusal → ℕ
moves_of (Ok (reply.Forward steps why)) = steps
moves_of (Ok (reply.Back moves why)) = moves
moves_of _ = 0

-- A breakpoint whose condition doesn't hold is passed.
abbrev pub is_passed : ConditionList → Result Reply Refusal → State → Bool
is_passed cs said x = is_break said && is_false cs x

-- Whether pc lies within these addresses, the last not among them, at this depth of calls.
abbrev pub is_within : ℕ → ℕ → ℕ → State → Bool
is_within from to deep x = nat_le from (8 * x.pc) && nat_lt (8 * x.pc) to && depth x == deep

-- Whether a request wants its command again, which answered this, in this state: `c` and `bc` at a breakpoint that is passed, and a step by a
-- range as long as pc stays in it.
abbrev pub wants_again : Request → ConditionList → ℕ → Result Reply Refusal → State → Bool
wants_again (request.Move (command.Forward goal.Continue)) cs deep said x = is_passed cs said x
wants_again (request.Move (command.Back target.Continue)) cs deep said x = is_passed cs said x
wants_again (request.Range from to) cs deep said x = (is_done said || is_passed cs said x) && is_within from to deep x
wants_again _ cs deep said x = false

-- A command's answer, and the session behind it.
pub record Round (K : Type 0) : Type 0 where
  pub said : Result Reply Refusal
  pub after : SessionValue K

-- The rounds of a way, the newest first: where they lead, how many moves lie before then, and how many there were, one a round at least.
abbrev pub led_to : {K : Type 0} → SessionValue K → List (Round K) → SessionValue K
led_to from [] = from
led_to from (r ∷ rs) = r.after

abbrev pub moves_behind : {K : Type 0} → Command → ℕ → List (Round K) → ℕ
moves_behind command moves [] = moves
moves_behind command moves (r ∷ rs) = moves_after r.said command (moves_behind command moves rs)

abbrev pub made : {K : Type 0} → List (Round K) → ℕ
made [] = 0
made (r ∷ rs) = counted (made rs + max (moves_of r.said) 1)

-- The first watched byte that a round changed.
abbrev pub changed : {K : Type 0} → SessionValue K → Round K → Option ℕ
changed from r = first_changed (seen_at from.watches from.moment.state) r.after.moment.state

-- Whether another round follows behind one, which began here: where a watched byte changed none does.
abbrev pub Again : Type 0
Again = Result Reply Refusal → State → Bool

abbrev pub goes_again : {K : Type 0} → Again → SessionValue K → Round K → Bool
goes_again again from r = is_none (changed from r) && again r.said r.after.moment.state

abbrev pub GoAgain : {K : Type 0} → Again → SessionValue K → List (Round K) → Type 0
GoAgain again from [] = Unit {0}
GoAgain again from (r ∷ rs) = goes_again again (led_to from rs) r ≡ true

-- How a way ends: where as many moves were made as the session's limit has, or behind a round after which none follows.
abbrev pub IsHalt : {K : Type 0} → Command → Again → SessionValue K → List (Round K) → Answer → Type 0
IsHalt command again from [] told = ⊥
IsHalt command again from (r ∷ rs) told = (goes_again again (led_to from rs) r ≡ false)
    × (told ≡ answer_of_move r.said (runs command) r.after.moment.state.status (changed (led_to from rs) r))

abbrev pub IsCut : {K : Type 0} → Again → SessionValue K → List (Round K) → Answer → Type 0
IsCut again from rs told = GoAgain again from rs × (from.limit ≤ made rs) × (told ≡ answer.Halted halt.Limit)

module _ {K : Type 0} (holds : K → List Kept → Type 0) (refusals room : K → ℕ) where
  -- The session obeyed a command, as it obeys it everywhere.
  abbrev pub Obeyed : SessionValue K → SessionValue K → Command → Result Reply Refusal → Type 0
  Obeyed old new command said = Obeys holds refusals room old new (λ gap. does gap (bounds_of room old) command) said

  -- Each round obeys the command, behind fewer moves than the session's limit has, where another round followed.
  abbrev pub AreRounds : Command → Again → SessionValue K → List (Round K) → Type 0
  AreRounds command again from [] = Unit {0}
  AreRounds command again from (r ∷ rs) = Obeyed (led_to from rs) r.after command r.said × GoAgain again from rs × (made rs < from.limit) × AreRounds command again from rs

  -- A way was gone, from a session before whose state so many moves lie to another.
  abbrev pub Goes : Command → Again → SessionValue K × ℕ → SessionValue K × ℕ → Answer → Type 0
  Goes command again from to told = (rs : List (Round K)) × AreRounds command again from.0 rs × (led_to from.0 rs ≡ to.0)
      × (to.1 ≡ moves_behind command from.1 rs) × (IsHalt command again from.0 rs told ⊎ IsCut again from.0 rs told)
