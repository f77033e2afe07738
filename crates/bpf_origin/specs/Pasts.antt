-- What goes back over the moves that led to a state: what that leaves of the history, and of what was taken back from it.
use Rattle.std.specs.Prelude.{◌≡◌, ℕ, zero, suc, List, [], ◌∷◌, Option, Some, None}
use Rattle.bpf_entries.specs.Keeping.{Kept}
use Rattle.bpf_journal.specs.Counts.{one_more}
use Rattle.bpf_journal.specs.Histories.{Record}
use Rattle.bpf_journal.specs.TakingBack.{taken_of}
use Rattle.bpf_journal.specs.Tracks.{CourseValue, Follows, Track}
use Rattle.bpf_journal.specs.declared.taken.Taken.{Taken}
use Rattle.bpf_steps.specs.State.{State}

-- A state, and the track that it stands on.
pub record Stand : Type 0 where
  pub track : Track
  pub state : State

abbrev pub stand : List Record → List Record → State → Stand
stand h f y = record { track = record { history = h; ahead = f }; state = y }

-- So many of the newest records are taken back, the newest first; each goes in front of those that were taken back before.
abbrev pub gone_back : ℕ → List Record → List Record → State → Stand
gone_back zero h f y = stand h f y
gone_back (suc k) [] f y = stand [] f y
gone_back (suc k) (r ∷ h) f y = gone_back k h (r ∷ f) r.before

abbrev pub gone_from : ℕ → Track → State → Stand
gone_from k t y = gone_back k t.history t.ahead y

module _ {P : Type 0} (state : P → State) (follows : P → Track → Type 0) where
  -- It stands there.
  pub record StandsThere (p : P) (s : Stand) : Type 0 where
    pub at : state p ≡ s.state
    pub on : follows p s.track

  -- The newest record's move is taken back, and what is told of it; nothing changes where none is kept.
  abbrev pub GoesBack : Option Taken → List Record → List Record → P → P → Type 0
  GoesBack taken [] f old new = (taken ≡ None) × StandsThere new (stand [] f (state old))
  GoesBack taken (r ∷ h) f old new = (taken ≡ Some (taken_of r)) × StandsThere new (stand h (r ∷ f) r.before)

-- The same of a course, which stands for a track.
abbrev pub state_of : {K : Type 0} → CourseValue K → State
state_of c = c.state

abbrev pub CourseStands : {K : Type 0} → (K → List Kept → Type 0) → CourseValue K → Stand → Type 0
CourseStands holds c s = StandsThere state_of (Follows holds) c s

-- The journal has the size that it had, and its keeper refused nothing.
pub record IsSameKeeper {P : Type 0} (size refusals : P → ℕ) (old new : P) : Type 0 where
  pub room : size new ≡ size old
  pub refused : refusals new ≡ refusals old

-- Where moves are left that are to be made again, the keeper refused one push more.
abbrev pub refusals_left : ℕ → ℕ → ℕ
refusals_left zero n = n
refusals_left (suc left) n = one_more n

-- So many moves are left that are to be made again: none if the keeper refuses none, and none unless it refused one. (A count of 2^64 - 1 stays,
-- and tells neither.)
pub record LeavesMoves {K : Type 0} (refusals : K → ℕ) (old new : K) (left : ℕ) : Type 0 where
  pub none : ((keeper : K) → refusals keeper ≡ 0) → left ≡ 0
  pub refused : refusals new ≡ refusals_left left (refusals old)
