-- What a ring of entries holds: a list of entries and marks, the newest first, whose text its bytes are.
use Rattle.std.specs.Prelude.{◌≡◌, List, [], ◌∷◌}
use Rattle.bpf_entries.specs.Keeping.{Kept}
use Rattle.bpf_entries.specs.Rings.{AllFit, ring}
use Rattle.bpf_machine.specs.Moves.{HasCome}
use Rattle.bpf_steps.specs.State.{State}
use Rattle.bpf_ring.specs.declared.counts.Counts.{Counts}
use Rattle.bpf_ring.specs.declared.keeper.RingKeeper.{RingKeeper}
use Rattle.bpf_ring.specs.Blocks.{Content}
use Rattle.bpf_ring.specs.Counted.{Counted}

-- The list fits its fields, its text are the bytes, and it was counted.
pub record IsHeld (content : Content) (counts : Counts) (ks : List Kept) : Type 0 where
  pub fit : AllFit ks
  pub bytes : content.bytes ≡ ring ks
  pub counted : Counted counts ks

-- A ring of entries holds the list by its bytes and its counts.
abbrev pub RingHolds : RingKeeper → List Kept → Type 0
RingHolds ring ks = IsHeld ring.ring ring.counts ks

-- The newest of a list led to a state; where there is none, nothing is said.
abbrev pub NewestLed : List Kept → State → Type 0
NewestLed [] y = Unit {0}
NewestLed (k ∷ ks) y = HasCome y k.0

-- A ring holds some list, whose newest led to a state.
pub record HoldsWay (content : Content) (counts : Counts) (y : State) : Type 0 where
  pub ks : List Kept
  pub held : IsHeld content counts ks
  pub led : NewestLed ks y
