-- The kept history with what was taken back from it.
use Rattle.std.specs.Prelude.{◌≡◌, ◌≤◌, ◌+◌, ℕ, zero, suc, List, [], ◌∷◌, map, sum_by}
use Rattle.bpf_entries.specs.Keeping.{Kept, keep}
use Rattle.bpf_machine.specs.Moves.{Leads, moved}
use Rattle.bpf_steps.specs.State.{State}
use Rattle.bpf_ring.specs.declared.keeper.RingKeeper.{RingKeeper}
use Rattle.bpf_journal.specs.Again.{again_of}
pub use Rattle.bpf_journal.specs.Handing.{RingHolds, ring_room}
use Rattle.bpf_journal.specs.Histories.{HasHistory, Record, StandsFor, record_weight}
use Rattle.bpf_journal.specs.Runs.{history_after}

-- The history, the newest record first, and the records that were taken back since the latest new move, the next one to be made again first.
pub record Track : Type 0 where
  pub history : List Record
  pub ahead : List Record

-- A history from which nothing was taken back.
abbrev pub track_of : List Record → Track
track_of h = record { history = h; ahead = [] }

-- After a new move, which the journal keeps in its room: what was taken back before is forgotten.
abbrev pub with_new : ℕ → Record → Track → Track
with_new room r t = track_of (keep record_weight room t.history r)

-- After so many steps, which are new moves: after none all stays.
abbrev pub track_after : ℕ → ℕ → State → Track → Track
track_after room zero x t = t
track_after room (suc k) x t = track_of (history_after room (suc k) x t.history)

-- The records lead from x on, each by its move to the next one.
abbrev pub IsAhead : State → List Record → Type 0
IsAhead x [] = Unit {0}
IsAhead x (r ∷ f) = (r.before ≡ x) × Leads x r.move (moved x r.move) × IsAhead (moved x r.move) f

-- What a course is opened with: a keeper that stands with the state for some history, and an empty ring of its size.
pub record CanOpen {K : Type 0} (holds : K → List Kept → Type 0) (room : K → ℕ) (keeper : K) (x : State) (redo : RingKeeper) : Type 0 where
  pub past : HasHistory holds keeper x
  pub empty : RingHolds redo []
  pub size : ring_room redo ≡ room keeper

-- A state, the keeper of the moves that led to it, and the ring of those that were taken back.
pub record CourseValue (K : Type 0) : Type 0 where
  pub state : State
  pub keeper : K
  pub redo : RingKeeper

-- They stand for a track: the keeper for the history, the ring holds what was taken back, its newest the next one, which leads on from the
-- state; and both lists together fit the room.
pub record Follows {K : Type 0} (holds : K → List Kept → Type 0) (s : CourseValue K) (t : Track) : Type 0 where
  pub history : StandsFor holds s.keeper s.state t.history
  pub held : RingHolds s.redo (map again_of t.ahead)
  pub ahead : IsAhead s.state t.ahead
  pub within : sum_by record_weight t.history + sum_by record_weight t.ahead ≤ ring_room s.redo

-- There is a track, and the ring is of the journal's size.
pub record IsCourse {K : Type 0} (holds : K → List Kept → Type 0) (room : K → ℕ) (s : CourseValue K) : Type 0 where
  pub track : Track
  pub follows : Follows holds s track
  pub size : ring_room s.redo ≡ room s.keeper
