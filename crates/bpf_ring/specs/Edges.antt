-- Scaffolding: a ring whose oldest bytes may be the rest of an entry. A run that has filled it writes on over them, whatever they are, and finds
-- the oldest whole entry at its end.
use Rattle.std.specs.Prelude.{◌≡◌, ◌≤◌, ◌+◌, ◌-◌, ℕ, Bool, true, false, List, length, count_by, drop, not}
use Rattle.bpf_entries.specs.Keeping.{Kept, fit, kept_weight}
use Rattle.bpf_entries.specs.Past.{is_of_step}
use Rattle.bpf_entries.specs.Rings.{AllFit, ring}
use Rattle.bpf_ring.specs.Blocks.{Content}
use Rattle.bpf_ring.specs.Held.{RingHolds}
use Rattle.bpf_ring.specs.declared.counts.Counts.{Counts}
use Rattle.bpf_ring.specs.declared.edge.Edge.{Edge}
use Rattle.bpf_ring.specs.declared.keeper.RingKeeper.{RingKeeper}

-- The last of a list, so many.
abbrev pub newest : ℕ → List ℕ → List ℕ
newest n xs = drop (length xs - n) xs

-- No entry is marked, and none is of an edit.
abbrev pub ArePlain : List Kept → Type 0
ArePlain ks = (count_by (λ k. k.1) ks ≡ 0) × (count_by (λ k. not (is_of_step k.0)) ks ≡ 0)

-- The bytes are the last ones of the text of such a list, as many as the ring has room for, and of the list as many entries fit it as these.
pub record IsRagged (content : Content) (counts : Counts) (ks : List Kept) : Type 0 where
  pub all : List Kept
  pub fits : AllFit all
  pub plain : ArePlain all
  pub bytes : content.bytes ≡ newest content.size (ring all)
  pub counted : (counts.marks ≡ 0) × (counts.edits ≡ 0)
  pub same : fit kept_weight content.size all ≡ ks

-- What a ring holds, by whether it is ragged.
abbrev pub HoldsAs : Bool → RingKeeper → List Kept → Type 0
HoldsAs true ring ks = IsRagged ring.ring ring.counts ks
HoldsAs false ring ks = RingHolds ring ks

-- Behind a place the bytes are the text of a list, of so many entries.
pub record IsBehind (content : Content) (edge : Edge) (ks : List Kept) : Type 0 where
  pub fits : AllFit ks
  pub bytes : drop edge.place content.bytes ≡ ring ks
  pub entries : edge.entries ≡ length ks
  pub plain : ArePlain ks

-- The oldest bytes went that leave no room for so many.
pub record MakesWay (old new : RingKeeper) (room : ℕ) : Type 0 where
  pub size : new.ring.size ≡ old.ring.size
  pub within : length new.ring.bytes + room ≤ new.ring.size
  pub counts : new.counts ≡ old.counts
  pub bytes : new.ring.bytes ≡ drop (length old.ring.bytes + room - old.ring.size) old.ring.bytes
