-- What an answer about goals means: before the move that is told a goal can be come to, and from no state since, nor does any run come to one from there.
use Rattle.std.specs.Prelude.{◌≡◌, ◌≤◌, ◌<◌, ◌⊎◌, ℕ, ◌-◌, Bool, true, false, List, length}
use Rattle.bpf_journal.specs.Histories.{Record}
use Rattle.bpf_journal.specs.Lookups.{state_before}
use Rattle.bpf_entries.specs.Status.{has_ended}
use Rattle.bpf_steps.specs.Runs.{state_after}
use Rattle.bpf_steps.specs.State.{State, IsState}
use Rattle.bpf_whynot.specs.Answers.{Query, left_by, never_text, only, not_come}
use Rattle.bpf_whynot.specs.Reach.{TellsReach, can_from, is_goal}

-- The answer is that of a move so many back, in a history that leads to y: a goal can be come to from the state before it, and from no state
-- after it, up to y.
pub record IsOfMove (can : ℕ → List ℕ → Bool) (s : Query) (h : List Record) (y : State) : Type 0 where
  pub moves : ℕ
  pub of : Record
  pub older : List Record
  pub some : 1 ≤ moves
  pub within : moves ≤ length h
  pub before : state_before moves h y ≡ of.before
  pub could : can_from can of.before ≡ true
  pub since : (j : ℕ) → j < moves → can_from can (state_before j h y) ≡ false
  pub told : not_come can s h y ≡ left_by s moves of older (state_before (moves - 1) h y)

-- It is that of none: from no state that the history has can a goal be come to.
pub record IsOfNone (can : ℕ → List ℕ → Bool) (s : Query) (h : List Record) (y : State) : Type 0 where
  pub none : (j : ℕ) → can_from can (state_before j h y) ≡ false
  pub told : not_come can s h y ≡ only (never_text s.question.opening)

-- Where a goal can't be come to any more, the answer is one or the other.
abbrev pub AnswersAreOfTheLatest : Type 0
AnswersAreOfTheLatest = (can : ℕ → List ℕ → Bool) (s : Query) (h : List Record) (y : State) → can_from can y ≡ false
    → IsOfMove can s h y ⊎ IsOfNone can s h y

-- Out of reach is out of reach for good: from a state from which no goal can be come to, by a test that tells that, no run takes a step at one.
abbrev pub OutOfReachStays : Type 0
OutOfReachStays = (can : ℕ → List ℕ → Bool) (goals : List ℕ) (x : State) (n : ℕ)
    → IsState x → TellsReach x.program goals can → can_from can x ≡ false
    → has_ended (state_after n x).status ≡ false → is_goal goals (state_after n x).pc ≡ false
