-- The newest entries of steps go from a keeper to a ring, as their moves are taken back.
use Rattle.std.specs.Prelude.{◌≡◌, ◌≤◌, ℕ, Bool, false, List, [], ◌∷◌, Option, None, OnSome, is_some, map, if◌then◌else◌}
use Rattle.bpf_entries.specs.Keeping.{Kept, keep, kept_weight}
use Rattle.bpf_entries.specs.Past.{is_of_step}
use Rattle.bpf_steps.specs.State.{State}
pub use Rattle.bpf_ring.specs.Held.{RingHolds}
pub use Rattle.bpf_ring.specs.Moments.{Moment, beside}
use Rattle.bpf_ring.specs.Ways.{IsWay, Made, kept_by}
use Rattle.bpf_ring.specs.declared.keeper.RingKeeper.{RingKeeper}
use Rattle.bpf_journal.specs.Histories.{Record, StandsFor}
use Rattle.bpf_journal.specs.Keepers.{Known}
use Rattle.bpf_journal.specs.TakingBack.{TakesBack}
use Rattle.bpf_journal.specs.declared.taken.Taken.{Taken}

-- The newest is handed over where it is of a step: a ring of this size, which held other entries, keeps it as well.
abbrev pub Hands : Bool → List Kept → List Kept → ℕ → (List Kept → Type 0) → Type 0
Hands handed [] ls size held = (handed ≡ false) × held ls
Hands handed (k ∷ es) ls size held = (handed ≡ is_of_step k.0) × held (if is_of_step k.0 then keep kept_weight size ls k else ls)

-- What it is to take so many moves back at once, as `HandsBack` of a table of slots and of what stays.
abbrev pub Handed : Type 1
Handed = State → (List Kept → Type 0) → (List Kept → Type 0) → ℕ → List Made → List Kept → State → Type 0

-- How many bytes a ring may have.
abbrev pub ring_room : RingKeeper → ℕ
ring_room ring = ring.ring.size

-- A keeper gives a ring what it held; its moves are taken back.
module _ {K : Type 0} (by : Known K) where
  -- The newest entry goes over where it is of a step, else all stays.
  pub record HandsOver (taken : Option Taken) (old new : Moment K) (ring left : RingKeeper) : Type 0 where
    pub hands : (es ls : List Kept) → by.holds old.keeper es → RingHolds ring ls → Hands (is_some taken) es ls (ring_room ring) (RingHolds left)
    pub back : OnSome taken ((h : List Record) → StandsFor by.holds old.keeper old.state h → TakesBack by.holds taken h old.state new.keeper new.state)
    pub stays : taken ≡ None → (new.keeper ≡ old.keeper) × (new.state ≡ old.state) × (left ≡ ring)
    pub ring_size : ring_room left ≡ ring_room ring
    pub refused : by.refusals new.keeper ≡ by.refusals old.keeper
    pub room : by.size new.keeper ≡ by.size old.keeper

  -- So many of the newest go over, at most as many as they may be, each as `hands` says of moves that go back at once.
  pub record HandsOverSteps (hands : Handed) (most n : ℕ) (old new : Moment K) (ring left : RingKeeper) : Type 0 where
    pub within : n ≤ most
    pub handed : (ws : List Made) (ls : List Kept) → by.holds old.keeper (map kept_by ws) → IsWay ws old.state
        → hands new.state (by.holds new.keeper) (λ ms. RingHolds ring ls → RingHolds left ms) n ws ls old.state
    pub ring_size : ring_room left ≡ ring_room ring
    pub refused : by.refusals new.keeper ≡ by.refusals old.keeper
    pub room : by.size new.keeper ≡ by.size old.keeper
