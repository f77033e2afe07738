-- What a new move leaves of a course, what going back leaves, and what making a move again leaves.
use Rattle.std.specs.Prelude.{◌≡◌, ℕ, zero, suc, Bool, true, false, List, [], ◌∷◌, Option, Some, None}
use Rattle.bpf_machine.specs.declared.moves.Move.{Move}
use Rattle.bpf_machine.specs.Moves.{IsMovable, Leads, moved}
use Rattle.bpf_steps.specs.State.{State}
use Rattle.bpf_entries.specs.Keeping.{Kept}
use Rattle.bpf_journal.specs.declared.fault.TimelineFault.{TimelineFault}
use Rattle.bpf_journal.specs.declared.fault.TimelineFault.TheVariants as fault
use Rattle.bpf_journal.specs.declared.taken.Taken.{Taken}
use Rattle.bpf_journal.specs.Histories.{Record}
use Rattle.bpf_journal.specs.Reverting.{RefusesMove}
use Rattle.bpf_journal.specs.TakingBack.{taken_of}
use Rattle.bpf_journal.specs.Timelines.{record_of}
use Rattle.bpf_journal.specs.Tracks.{Track, CourseValue, Follows, with_new}

module _ {K : Type 0} (holds : K → List Kept → Type 0) where
  -- A new move is made and kept, and nothing is left to be made again.
  pub record MakesNew (room : ℕ) (m : Move) (mark : Bool) (old new : CourseValue K) : Type 0 where
    pub leads : Leads old.state m new.state
    pub kept : (t : Track) → Follows holds old t → Follows holds new (with_new room (record_of old.state m mark) t)

  -- The state stays, and so does every track that is stood for.
  pub record StaysThere (old new : CourseValue K) : Type 0 where
    pub state : new.state ≡ old.state
    pub stands : (t : Track) → Follows holds old t → Follows holds new t

  -- Why a new move is not made, and what that leaves.
  abbrev pub FailsThere : Move → CourseValue K → CourseValue K → TimelineFault → Type 0
  FailsThere m old new (fault.Move f) = RefusesMove old.state m f × StaysThere old new
  FailsThere m old new fault.OutOfMemory = IsMovable old.state m × StaysThere old new

  -- The newest record's move is taken back, and the record goes in front of those that were taken back before; nothing changes where none
  -- is kept.
  abbrev pub GoesBackOne : Option Taken → List Record → List Record → CourseValue K → CourseValue K → Type 0
  GoesBackOne taken [] f old new = (taken ≡ None) × (new.state ≡ old.state) × Follows holds new (record { history = []; ahead = f })
  GoesBackOne taken (r ∷ h) f old new = (taken ≡ Some (taken_of r)) × (new.state ≡ r.before) × Follows holds new (record { history = h; ahead = r ∷ f })

  -- The next one of the records that were taken back goes to the end of the history, with its mark, and its move is made again; nothing
  -- changes where there is none.
  abbrev pub MakesAgain : Bool → List Record → List Record → CourseValue K → CourseValue K → Type 0
  MakesAgain made h [] old new = (made ≡ false) × (new.state ≡ old.state) × Follows holds new (record { history = h; ahead = [] })
  MakesAgain made h (r ∷ f) old new = (made ≡ true) × (new.state ≡ moved r.before r.move) × Follows holds new (record { history = r ∷ h; ahead = f })

  -- So many of them are made again, one after another, from the state y on.
  abbrev pub MakesAllAgain : ℕ → List Record → List Record → State → CourseValue K → Type 0
  MakesAllAgain zero h f y new = (new.state ≡ y) × Follows holds new (record { history = h; ahead = f })
  MakesAllAgain (suc k) h [] y new = ⊥
  MakesAllAgain (suc k) h (r ∷ f) y new = MakesAllAgain k (r ∷ h) f (moved r.before r.move) new
