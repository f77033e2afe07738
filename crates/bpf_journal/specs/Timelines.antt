-- A state with the keeper of the moves that led to it: what a move leaves of both, and what going back leaves.
use Rattle.std.specs.Prelude.{◌≡◌, ℕ, Bool, List, Option, Result, Err, OnOk, IfOk, IfErr}
use Rattle.bpf_machine.specs.declared.moves.Move.{Move}
use Rattle.bpf_steps.specs.Entries.{step_entry}
use Rattle.bpf_machine.specs.Moves.{IsMovable, Leads}
use Rattle.bpf_steps.specs.State.{State}
use Rattle.bpf_journal.specs.declared.fault.TimelineFault.{TimelineFault}
use Rattle.bpf_journal.specs.declared.fault.TimelineFault.TheVariants as fault
use Rattle.bpf_journal.specs.Counts.{one_more}
use Rattle.bpf_journal.specs.declared.taken.Taken.{Taken}
use Rattle.bpf_entries.specs.Keeping.{Kept, keep}
pub use Rattle.bpf_ring.specs.Moments.{Moment, beside}
use Rattle.bpf_journal.specs.Histories.{Record, record_weight, StandsFor}
use Rattle.bpf_journal.specs.Replaced.{replaces_bytes}
use Rattle.bpf_journal.specs.Reverting.{RefusesMove}
use Rattle.bpf_journal.specs.TakingBack.{TakesBack}

-- The record of a move.
abbrev pub record_of : State → Move → Bool → Record
record_of x m mark = record { before = x; move = m; mark = mark }

module _ {K : Type 0} (holds : K → List Kept → Type 0) where
  -- A moment stands for a history.
  abbrev pub StandsAt : Moment K → List Record → Type 0
  StandsAt t h = StandsFor holds t.keeper t.state h

  -- A move is made and kept, in every history that was stood for.
  pub record Makes (room : ℕ) (m : Move) (mark : Bool) (old new : Moment K) : Type 0 where
    pub leads : Leads old.state m new.state
    pub kept : (h : List Record) → StandsAt old h → StandsAt new (keep record_weight room h (record_of old.state m mark))

  -- The state stays, and so does every history that is stood for.
  pub record Stays (old new : Moment K) : Type 0 where
    pub state : new.state ≡ old.state
    pub stands : (h : List Record) → StandsAt old h → StandsAt new h

  -- Why a move is not made, and what that leaves.
  abbrev pub Fails : Move → Moment K → Moment K → TimelineFault → Type 0
  Fails m old new (fault.Move f) = RefusesMove old.state m f × (new ≡ old)
  Fails m old new fault.OutOfMemory = IsMovable old.state m × Stays old new

  -- The newest record's move is taken back.
  abbrev pub GoesBack : Option Taken → List Record → Moment K → Moment K → Type 0
  GoesBack taken h old new = TakesBack holds taken h old.state new.keeper new.state

-- What a move that was tried does to the number of refusals: one more where the keeper refused it.
abbrev pub refusals_by : {A : Type 0} → Result A TimelineFault → ℕ → ℕ
refusals_by (Err fault.OutOfMemory) n = one_more n
refusals_by _ n = n

-- A step from x that was tried: what it leaves, where it is made and where it is not, and whether it replaced bytes of memory. A timeline and
-- a course say by it what a step is.
pub record TriesStep {K : Type 0} (refusals size : K → ℕ) (makes : Type 0) (fails : TimelineFault → Type 0) (x : State) (result : Result Bool TimelineFault) (old new : K) : Type 0 where
  pub ok : OnOk result makes
  pub err : IfErr result fails
  pub bytes : IfOk result (λ replaced. replaced ≡ replaces_bytes (step_entry x))
  pub refused : refusals new ≡ refusals_by result (refusals old)
  pub room : size new ≡ size old
