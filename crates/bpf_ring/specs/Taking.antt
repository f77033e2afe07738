-- The newest entry's move is taken back, and the entry is let go, or goes over to another ring.
use Rattle.std.specs.Prelude.{◌≡◌, ◌-◌, ◌++◌, ◌∷◌, [], ℕ, Bool, true, false, List, Option, Some, None, length, drop}
use Rattle.bpf_entries.specs.declared.entry.Entry.{Entry}
use Rattle.bpf_entries.specs.Fields.{FitsFields}
use Rattle.bpf_entries.specs.Keeping.{Kept, keep, kept_weight}
use Rattle.bpf_entries.specs.Past.{is_of_step}
use Rattle.bpf_entries.specs.Texts.{kind, tag, text}
use Rattle.bpf_machine.specs.declared.moves.Move.{Move}
use Rattle.bpf_machine.specs.Moves.{Leads, overwritten}
use Rattle.bpf_steps.specs.State.{State}
use Rattle.bpf_ring.specs.Held.{RingHolds}
use Rattle.bpf_ring.specs.declared.keeper.RingKeeper.{RingKeeper}

-- It is let go, and y becomes the state before the move. The answer is its tag, and none where none is held.
pub record TakesBack (y z : State) (old new : RingKeeper) (taken : Option ℕ) : Type 0 where
  pub size : new.ring.size ≡ old.ring.size
  pub none : RingHolds old [] → (taken ≡ None) × (z ≡ y) × RingHolds new []
  pub some : (ks : List Kept) (k : Kept) → RingHolds old (k ∷ ks) → (taken ≡ Some (tag (kind k.0) k.1)) × RingHolds new ks
  pub back : (ks : List Kept) (k : Kept) (x : State) (m : Move) → RingHolds old (k ∷ ks) → Leads x m y → overwritten x m ≡ k.0 → z ≡ x

-- Where it is of a step, another ring keeps it, and y becomes the state before the step. The answer is its tag, and none where none is held or it
-- is of an edit: then nothing changes.
pub record HandsOver (y z : State) (old new other_old other_new : RingKeeper) (taken : Option ℕ) : Type 0 where
  pub size : (new.ring.size ≡ old.ring.size) × (other_new.ring.size ≡ other_old.ring.size)
  pub none : RingHolds old [] → taken ≡ None
  pub edit : (ks : List Kept) (k : Kept) → RingHolds old (k ∷ ks) → is_of_step k.0 ≡ false → taken ≡ None
  pub stays : taken ≡ None → (new ≡ old) × (z ≡ y) × (other_new ≡ other_old)
  pub some : (ks : List Kept) (k : Kept) → RingHolds old (k ∷ ks) → is_of_step k.0 ≡ true → (taken ≡ Some (tag (kind k.0) k.1)) × RingHolds new ks
  pub back : (ks : List Kept) (k : Kept) (x : State) (m : Move) → RingHolds old (k ∷ ks) → is_of_step k.0 ≡ true → Leads x m y → overwritten x m ≡ k.0 → z ≡ x
  pub handed : (ks ls : List Kept) (k : Kept) → RingHolds old (k ∷ ks) → is_of_step k.0 ≡ true → RingHolds other_old ls
      → RingHolds other_new (keep kept_weight other_old.ring.size ls k)

-- Scaffolding: of the move whose entry's text the newest bytes are, so many, y becomes the state before it, and the answer is the entry's tag.
pub record Reverts (bytes : List ℕ) (count : ℕ) (y z : State) (told : ℕ) : Type 0 where
  pub back : (x : State) (m : Move) (mark : Bool) → Leads x m y → FitsFields (overwritten x m) → drop (length bytes - count) bytes ≡ text (overwritten x m) mark → z ≡ x
  pub tag : (e : Entry) (mark : Bool) (before rest : List ℕ) → bytes ≡ before ++ (text e mark ++ rest) → length bytes - count ≡ length before → told ≡ tag (kind e) mark

-- Scaffolding: the text of the entry goes over to a ring. Where it is of a step, the state y becomes that before the step, and the ring keeps the entry as well. The answer is its tag, and none where
-- it is of an edit: then nothing changes.
pub record TakesText (bytes : List ℕ) (taken : Option ℕ) (y z : State) (old new : RingKeeper) : Type 0 where
  pub size : new.ring.size ≡ old.ring.size
  pub edit : (e : Entry) (mark : Bool) → bytes ≡ text e mark → is_of_step e ≡ false → taken ≡ None
  pub stays : taken ≡ None → (z ≡ y) × (new ≡ old)
  pub some : (e : Entry) (mark : Bool) → bytes ≡ text e mark → is_of_step e ≡ true → taken ≡ Some (tag (kind e) mark)
  pub held : (ls : List Kept) (e : Entry) (mark : Bool) → FitsFields e → bytes ≡ text e mark → is_of_step e ≡ true → RingHolds old ls
      → RingHolds new (keep kept_weight old.ring.size ls (e, mark))
  pub back : (x : State) (m : Move) (mark : Bool) → Leads x m y → FitsFields (overwritten x m) → bytes ≡ text (overwritten x m) mark → is_of_step (overwritten x m) ≡ true → z ≡ x
