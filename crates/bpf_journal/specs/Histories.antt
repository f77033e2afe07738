-- A history keeps whole states: what a debugger would hold that never takes anything back, but looks it up. The newest comes first
-- in every list here.
use Rattle.std.specs.Prelude.{ℕ, Bool, true, false, List, [], ◌∷◌, Option, Some, None, map}
use Rattle.bpf_machine.specs.declared.moves.Move.{Move}
use Rattle.bpf_machine.specs.declared.moves.Move.TheVariants as move
use Rattle.bpf_entries.specs.Keeping.{Kept, kept_weight}
use Rattle.bpf_machine.specs.Moves.{Leads, overwritten}
use Rattle.bpf_steps.specs.State.{State}

-- A move with the whole state before it. The first move of a command is marked.
pub record Record : Type 0 where
  pub before : State
  pub move : Move
  pub mark : Bool

-- Whether a move is a step.
abbrev pub is_step : Move → Bool
is_step move.Step = true
is_step (move.Edit e) = false

-- Each record's move leads to the state before the next newer one, and the newest to y.
abbrev pub IsRun : List Record → State → Type 0
IsRun [] y = Unit {0}
IsRun (r ∷ h) y = Leads r.before r.move y × IsRun h r.before

-- What a journal keeps of a record: the entry of its move, and the mark.
abbrev pub kept_of : Record → Kept
kept_of r = (overwritten r.before r.move, r.mark)

abbrev pub record_weight : Record → ℕ
record_weight r = kept_weight (kept_of r)

-- The newest, and the list without it.
abbrev pub newest : {A : Type 0} → List A → Option A
newest [] = None
newest (e ∷ es) = Some e

abbrev pub older : {A : Type 0} → List A → List A
older [] = []
older (e ∷ es) = es

-- A keeper, known by what it holds, stands with a state for a history.
abbrev pub StandsFor : {K : Type 0} → (K → List Kept → Type 0) → K → State → List Record → Type 0
StandsFor holds keeper x h = holds keeper (map kept_of h) × IsRun h x

-- There is a history.
pub record HasHistory {K : Type 0} (holds : K → List Kept → Type 0) (keeper : K) (x : State) : Type 0 where
  pub history : List Record
  pub stands : StandsFor holds keeper x history
