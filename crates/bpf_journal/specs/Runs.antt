-- How a run of steps ends over a keeper, which may refuse one, and the history that it leaves.
use Rattle.std.specs.Prelude.{◌≡◌, ◌≤◌, ◌<◌, ◌==◌, ℕ, zero, suc, Bool, true, false, List}
use Rattle.bpf_entries.specs.Keeping.{keep}
use Rattle.bpf_steps.specs.State.{State}
use Rattle.bpf_machine.specs.declared.moves.Move.TheVariants.{Step}
use Rattle.bpf_ring.specs.Runs.{AreSteps, Running, RunsTo, state_after}
use Rattle.bpf_journal.specs.Counts.{one_more}
use Rattle.bpf_journal.specs.Histories.{Record, record_weight}
use Rattle.bpf_ring.specs.Moments.{Moment}
use Rattle.bpf_journal.specs.Timelines.{record_of}
use Rattle.bpf_journal.specs.declared.run.Run.{Run}

-- A run of at most so many steps from x takes n, which lead to y: until it stops, or until the keeper refuses the next one.
abbrev pub Ends : (Bool → State → Bool) → ℕ → State → State → ℕ → Bool → Type 0
Ends test most x y n false = RunsTo test most x y n
Ends test most x y n true = Running test x y n × (n < most)

-- How often a keeper has refused, after a run that it cut short or not.
abbrev pub refusals_by_run : Bool → ℕ → ℕ
refusals_by_run false n = n
refusals_by_run true n = one_more n

-- The history after so many steps: each is kept in the room, the first one with a mark.
abbrev pub history_after : ℕ → ℕ → State → List Record → List Record
history_after room zero x h = h
history_after room (suc k) x h = keep record_weight room (history_after room k x h) (record_of (state_after k x) Step (k == 0))

-- The history after so many steps, none of which has a mark.
abbrev pub history_on : ℕ → ℕ → State → List Record → List Record
history_on room zero x h = h
history_on room (suc k) x h = keep record_weight room (history_on room k x h) (record_of (state_after k x) Step false)

-- How often a keeper has refused, its room, and what grows along steps that it keeps: a list of entries, a history, a track.
pub record Growth (K A : Type 0) : Type 0 where
  pub refusals : K → ℕ
  pub size : K → ℕ
  pub along : ℕ → ℕ → State → A → A

abbrev pub grown_by : {K A : Type 0} → (K → ℕ) → (K → ℕ) → (ℕ → ℕ → State → A → A) → Growth K A
grown_by refusals size along = record { refusals = refusals; size = size; along = along }

-- What is kept of new steps: all that stood before stands as it grew along them. By it a keeper is known, a timeline and a course.
module _ {K A : Type 0} (by : Growth K A) (stood stands : A → Type 0) where
  -- A run ends, by a test, the most steps that it may take, or where the keeper refused one.
  pub record RunsOn (test : Bool → State → Bool) (most : ℕ) (old new : Moment K) (run : Run) : Type 0 where
    pub ends : Ends test most old.state new.state run.steps run.is_cut
    pub kept : (a : A) → stood a → stands (by.along (by.size old.keeper) run.steps old.state a)
    pub refused : by.refusals new.keeper ≡ refusals_by_run run.is_cut (by.refusals old.keeper)
    pub room : by.size new.keeper ≡ by.size old.keeper

  -- So many steps go on, at most as many as they may be; none is refused.
  pub record GoesOn (most : ℕ) (old new : Moment K) (n : ℕ) : Type 0 where
    pub state : new.state ≡ state_after n old.state
    pub steps : AreSteps old.state n
    pub within : n ≤ most
    pub kept : (a : A) → stood a → stands (by.along (by.size old.keeper) n old.state a)
    pub refused : by.refusals new.keeper ≡ by.refusals old.keeper
    pub room : by.size new.keeper ≡ by.size old.keeper
