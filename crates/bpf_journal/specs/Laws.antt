-- Laws of histories and moves.
use Rattle.std.specs.Prelude.{◌≡◌, ◌≤◌, ◌<◌, ℕ, ◌-◌, Bool, List, [], ◌∷◌, ◌++◌, sum_by}
use Rattle.bpf_entries.specs.declared.entry.Entry.{Entry}
use Rattle.bpf_machine.specs.declared.moves.Move.{Move}
use Rattle.bpf_machine.specs.Moves.{Leads, overwritten}
use Rattle.bpf_steps.specs.State.{State}
use Rattle.bpf_journal.specs.declared.fault.MoveFault.{MoveFault}
use Rattle.bpf_entries.specs.Fields.{FitsFields}
use Rattle.bpf_entries.specs.Keeping.{Kept, kept_weight, fit, keep}
use Rattle.bpf_entries.specs.Keeping.{IsSize}
use Rattle.bpf_journal.specs.Reverting.{RefusesMove}

module _ {A : Type 0} (weigh : A → ℕ) where
  -- xs is the longest beginning of es that weighs at most the room: with one more it weighs more.
  pub record IsLongest (room : ℕ) (es xs : List A) : Type 0 where
    pub rest : List A
    pub whole : es ≡ xs ++ rest
    pub within : sum_by weigh xs ≤ room
    pub longest : (e : A) (more : List A) → rest ≡ e ∷ more → room < sum_by weigh (xs ++ e ∷ [])

  -- `fit` is the longest such beginning.
  abbrev pub FitIsLongest : Type 0
  FitIsLongest = (room : ℕ) (es : List A) → IsLongest room es (fit weigh room es)

  -- A new one that weighs at most the room is always kept.
  abbrev pub NewIsKept : Type 0
  NewIsKept = (room : ℕ) (es : List A) (e : A) → weigh e ≤ room → keep weigh room es e ≡ e ∷ fit weigh (room - weigh e) es

  -- What was dropped before makes no difference to what is kept.
  abbrev pub DroppedIsForgotten : Type 0
  DroppedIsForgotten = (room : ℕ) (es : List A) (e : A) → keep weigh room (fit weigh room es) e ≡ keep weigh room es e

-- An entry that fits its fields weighs at most 519 bytes, so a journal of any size keeps it when it is new.
abbrev pub EveryEntryIsKept : Type 0
EveryEntryIsKept =
    (room : ℕ) (es : List Kept) (entry : Entry) (mark : Bool) → IsSize room → FitsFields entry →
    keep kept_weight room es (entry, mark) ≡ (entry, mark) ∷ fit kept_weight (room - kept_weight (entry, mark)) es

-- A move leads to one state only.
abbrev pub OneAfter : Type 0
OneAfter = (x y z : State) (m : Move) → Leads x m y → Leads x m z → y ≡ z

-- A move's entry and the state after it tell the state before it, in every component.
abbrev pub OneBefore : Type 0
OneBefore = (x z y : State) (m n : Move) → Leads x m y → Leads z n y → overwritten x m ≡ overwritten z n → x ≡ z

-- Replay is exact: from what an entry of the way there leads back to, the same move leads to the same state again.
abbrev pub ReplayIsExact : Type 0
ReplayIsExact =
    (x y z w : State) (m n : Move) → Leads x m y → Leads z n y → overwritten x m ≡ overwritten z n → Leads z m w →
    (z ≡ x) × (w ≡ y)

-- A refused move leads nowhere.
abbrev pub RefusedLeadsNowhere : Type 0
RefusedLeadsNowhere = (x y : State) (m : Move) (fault : MoveFault) → RefusesMove x m fault → ¬ Leads x m y
