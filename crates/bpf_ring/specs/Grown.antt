-- What a ring of entries holds once steps were kept in it. Its size stays.
use Rattle.std.specs.Prelude.{◌≡◌, ◌≤◌, ◌+◌, ◌-◌, ℕ, Bool, true, if◌then◌else◌, List, length, is_some}
use Rattle.bpf_entries.specs.Keeping.{IsSize, Kept, fit, keep, kept_weight}
use Rattle.bpf_entries.specs.Past.{replaced}
use Rattle.bpf_entries.specs.Status.{has_ended}
use Rattle.bpf_steps.specs.Entries.{step_entry}
use Rattle.bpf_machine.specs.Moves.{Leads}
use Rattle.bpf_steps.specs.Next.{next}
use Rattle.bpf_steps.specs.State.{State}
use Rattle.bpf_machine.specs.declared.moves.Move.TheVariants.{Step}
use Rattle.bpf_ring.specs.Held.{RingHolds}
use Rattle.bpf_ring.specs.Runs.{AreSteps, RunsTo, kept_after, kept_on, state_after}
use Rattle.bpf_ring.specs.declared.keeper.RingKeeper.{RingKeeper}

-- Scaffolding: the fewest oldest entries were dropped that leave room for so many bytes.
pub record MakesRoom (old new : RingKeeper) (room : ℕ) : Type 0 where
  pub size : new.ring.size ≡ old.ring.size
  pub sized : IsSize new.ring.size
  pub within : length new.ring.bytes + room ≤ new.ring.size
  pub held : (ks : List Kept) → RingHolds old ks → RingHolds new (fit kept_weight (old.ring.size - room) ks)

-- The step from x was taken, and its entry kept.
pub record RecordsStep (x y : State) (old new : RingKeeper) (mark : Bool) : Type 0 where
  pub next : y ≡ next x
  pub size : new.ring.size ≡ old.ring.size
  pub held : (ks : List Kept) → RingHolds old ks → RingHolds new (keep kept_weight old.ring.size ks (step_entry x, mark))

-- Scaffolding: a step of a run was kept so, and whether the run stops behind it.
pub record TakesStep (test : Bool → State → Bool) (x y : State) (old new : RingKeeper) (mark is_over : Bool) : Type 0 where
  pub leads : Leads x Step y
  pub stops : is_over ≡ (if has_ended y.status then true else test (is_some (replaced 0 (step_entry x))) y)
  pub size : new.ring.size ≡ old.ring.size
  pub held : (ks : List Kept) → RingHolds old ks → RingHolds new (keep kept_weight old.ring.size ks (step_entry x, mark))

-- A run from x to y of n steps, at most so many, was kept, its first step with a mark.
pub record KeepsRun (test : Bool → State → Bool) (most : ℕ) (x y : State) (old new : RingKeeper) (n : ℕ) : Type 0 where
  pub to : RunsTo test most x y n
  pub size : new.ring.size ≡ old.ring.size
  pub held : (ks : List Kept) → RingHolds old ks → RingHolds new (kept_after old.ring.size n x ks)

-- From x n steps, at most so many, were kept without marks.
pub record KeepsSteps (most : ℕ) (x y : State) (old new : RingKeeper) (n : ℕ) : Type 0 where
  pub state : y ≡ state_after n x
  pub steps : AreSteps x n
  pub within : n ≤ most
  pub size : new.ring.size ≡ old.ring.size
  pub held : (ks : List Kept) → RingHolds old ks → RingHolds new (kept_on old.ring.size n x ks)
