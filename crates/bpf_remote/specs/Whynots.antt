-- `monitor whynot`: why the program did not come to some slots, asked of the session as it stands. bpfdb's own choice.
use Rattle.std.specs.Prelude.{◌≡◌, ℕ, List, [], ◌⊎◌, Option, Some, None, Result, Ok, Err, if◌then◌else◌, Bool, false}
use lib.Chars.{codes}
use Rattle.std.specs.Option.{option_and_then}
use Rattle.std.specs.Result.{result_ok}
use Rattle.std.specs.Str.{bytes_eq}
use Rattle.hex.specs.Hex.{decode_of}
use Rattle.bpf_entries.specs.Keeping.{Kept}
use Rattle.bpf_isa.specs.Programs.{Checked}
use Rattle.bpf_journal.specs.Tracks.{Track}
use Rattle.bpf_session.specs.Sessions.{HasPast, SessionValue}
use Rattle.bpf_steps.specs.State.{State}
use Rattle.bpf_whynot.specs.Aims.{AimsAt, IsNoAim}
use Rattle.bpf_whynot.specs.Answers.{Query, why_not}
use Rattle.bpf_whynot.specs.Asked.{Goals, goal_fault, goals_in}
use Rattle.bpf_whynot.specs.Makings.{goals_left, made_last}
use Rattle.bpf_whynot.specs.Reach.{TellsReach}
use Rattle.bpf_whynot.specs.declared.aim.Aim.{Aim}
use Rattle.bpf_whynot.specs.declared.fault.AimFault.{AimFault}
use Rattle.bpf_whynot.specs.declared.fault.AimFault.TheVariants.{Goal, OutOfMemory}
use Rattle.bpf_whynot.specs.declared.fault.GoalFault.{GoalFault}
use Rattle.bpfdb_script.specs.Refusals.{refusal_text}
use Rattle.bpfdb_script.specs.SlotTexts.{SlotTexts}
use Rattle.bpfdb_script.specs.declared.refusal.Refusal.TheVariants as refusal
use Rattle.bpf_remote.specs.Numbers.{behind}
use Rattle.bpf_remote.specs.Origins.{ComesBack, Fits, FitsNamed, question_of, refused_line}
use Rattle.bpf_remote.specs.declared.manners.Manners.{Manners}

-- What a line asks about, by the digits that gdb writes for it: an empty text where it is `whynot`, and the text behind `whynot` and a blank;
-- None for another line.
abbrev pub asks_whynot : List ℕ → Option (List ℕ)
asks_whynot digits =
    if bytes_eq digits (codes "7768796e6f74") then Some []
    else option_and_then (λ rest. result_ok (decode_of rest)) (behind (codes "7768796e6f7420") digits)

-- What a text names in a session, or why there is no answer about it.
abbrev pub IsAimed : {K : Type 0} → (K → List Kept → Type 0) → SessionValue K → List ℕ → Result Aim AimFault → Type 0
IsAimed holds s text (Ok aim) = AimsAt holds s.moment.keeper s.moment.state text aim
IsAimed holds s text (Err fault) = IsNoAim s.moment.state.program text fault

-- The line of a refusal.
abbrev pub aim_refusal : AimFault → List ℕ
aim_refusal (Goal fault) = refused_line (codes "refused V") (goal_fault fault).0 (goal_fault fault).1
aim_refusal OutOfMemory = refusal_text refusal.OutOfMemory

-- What is asked of a session with this history, with what is told of slots, where so many moves lie before the state.
abbrev pub query_of : SlotTexts → ℕ → Goals → Track → State → Query
query_of places moves goals t y = record {
  goals = goals_left goals t.history;
  made = made_last goals t.history y;
  question = question_of places moves t;
  alone = false;
}

module _ {K : Type 0} (holds : K → List Kept → Type 0) (refusals room : K → ℕ) where
  -- What is told of slots: the answer over the kept history, by a test that tells from where they can be come to, with the names that are known; or
  -- why a text names none.
  abbrev pub TellsGoals : Manners → Result Goals GoalFault → SessionValue K → SessionValue K → ℕ → List ℕ → Type 0
  TellsGoals m (Err fault) old new left text = (new ≡ old) × (left ≡ 0) × Fits (aim_refusal (Goal fault)) text
  TellsGoals m (Ok goals) old new left text = (can : ℕ → List ℕ → Bool) × ComesBack holds refusals room old new left
      × ((t : Track) → HasPast holds old t → TellsReach old.moment.state.program (goals_left goals t.history) can
      × FitsNamed m.target.names (why_not can (query_of m.target.places m.moves goals t old.moment.state) t.history old.moment.state).text text)

  -- The same of the slots that a text names; or that there is no memory for that test.
  abbrev pub TellsWhynot : Manners → List ℕ → SessionValue K → SessionValue K → ℕ → List ℕ → Type 0
  TellsWhynot m asked old new left text =
      TellsGoals m (goals_in old.moment.state.program asked) old new left text
      ⊎ ((new ≡ old) × (left ≡ 0) × Fits (aim_refusal OutOfMemory) text)
