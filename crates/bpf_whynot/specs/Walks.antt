-- Scaffolding: the slots from which control comes to some seeds are found by going backwards. No public contract cites this.
use Rattle.std.specs.Prelude.{◌≡◌, ◌<◌, ◌≤◌, ℕ, Bool, true, List, Option, Some, count_by, length, slice_index}
use Rattle.bpf_whynot.specs.Tables.{is_in}
use Rattle.bpf_whynot.specs.declared.walk.Walk.{Walk}

-- From a slot control comes to a seed.
pub data Comes (behind jump : ℕ → Option ℕ) (seeds : ℕ → Bool) : ℕ → Type 0 where
  here : {p : ℕ} → seeds p ≡ true → Comes behind jump seeds p
  on : {p : ℕ} (q : ℕ) → behind p ≡ Some q → Comes behind jump seeds q → Comes behind jump seeds p
  jumps : {p : ℕ} (q : ℕ) → jump p ≡ Some q → Comes behind jump seeds q → Comes behind jump seeds p

-- A slot stands in a queue.
abbrev pub StandsIn : List ℕ → ℕ → Type 0
StandsIn queue slot = (i : ℕ) × (i < length queue) × (slice_index queue i ≡ slot)

-- The slots in the queue are those that are marked, each once, and from each control comes to a seed.
pub record IsWalk (behind jump : ℕ → Option ℕ) (seeds : ℕ → Bool) (n : ℕ) (walk : Walk) : Type 0 where
  pub size : length walk.marks.items ≡ n
  pub marked : (i : ℕ) → i < length walk.queue.items → is_in walk.marks.items (slice_index walk.queue.items i) ≡ true
  pub queued : (slot : ℕ) → is_in walk.marks.items slot ≡ true → StandsIn walk.queue.items slot
  pub once : count_by (λ mark. mark) walk.marks.items ≡ length walk.queue.items
  pub sound : (slot : ℕ) → is_in walk.marks.items slot ≡ true → Comes behind jump seeds slot

-- A walk went on: what was marked is, and the queue begins as it was.
pub record GoesOn (old new : Walk) : Type 0 where
  pub kept : (slot : ℕ) → is_in old.marks.items slot ≡ true → is_in new.marks.items slot ≡ true
  pub size : length new.marks.items ≡ length old.marks.items
  pub longer : length old.queue.items ≤ length new.queue.items
  pub begins : (i : ℕ) → i < length old.queue.items → slice_index new.queue.items i ≡ slice_index old.queue.items i

-- A walk that has marked a slot where a test holds, unless that is behind the last one. It stays a walk if control comes from there to a seed.
pub record MarksIf (test : Bool) (slot : ℕ) (old new : Walk) : Type 0 where
  pub on : GoesOn old new
  pub there : test ≡ true → slot < length new.marks.items → is_in new.marks.items slot ≡ true
  pub walk : (behind jump : ℕ → Option ℕ) (seeds : ℕ → Bool) (n : ℕ)
      → IsWalk behind jump seeds n old → (test ≡ true → Comes behind jump seeds slot) → IsWalk behind jump seeds n new

-- A walk that has marked all slots from which one is come to by what stands behind, or by a jump.
pub record LooksBehind (behind : ℕ → Option ℕ) (q : ℕ) (old new : Walk) : Type 0 where
  pub on : GoesOn old new
  pub there : (p : ℕ) → behind p ≡ Some q → p < length new.marks.items → is_in new.marks.items p ≡ true
  pub walk : (jump : ℕ → Option ℕ) (seeds : ℕ → Bool) (n : ℕ)
      → IsWalk behind jump seeds n old → Comes behind jump seeds q → IsWalk behind jump seeds n new

pub record LooksAlong (jump : ℕ → Option ℕ) (q : ℕ) (old new : Walk) : Type 0 where
  pub on : GoesOn old new
  pub there : (p : ℕ) → jump p ≡ Some q → p < length new.marks.items → is_in new.marks.items p ≡ true
  pub walk : (behind : ℕ → Option ℕ) (seeds : ℕ → Bool) (n : ℕ)
      → IsWalk behind jump seeds n old → Comes behind jump seeds q → IsWalk behind jump seeds n new

-- By either.
pub record LooksBack (by along : ℕ → Option ℕ) (q : ℕ) (old new : Walk) : Type 0 where
  pub on : GoesOn old new
  pub behind : (p : ℕ) → by p ≡ Some q → p < length new.marks.items → is_in new.marks.items p ≡ true
  pub jump : (p : ℕ) → along p ≡ Some q → p < length new.marks.items → is_in new.marks.items p ≡ true
  pub walk : (seeds : ℕ → Bool) (n : ℕ) → IsWalk by along seeds n old → Comes by along seeds q → IsWalk by along seeds n new

-- A walk that has marked the seeds below a slot.
pub record Begins (seeds : List Bool) (k : ℕ) (walk : Walk) : Type 0 where
  pub is_walk : (behind jump : ℕ → Option ℕ) → IsWalk behind jump (is_in seeds) (length seeds) walk
  pub here : (p : ℕ) → p < k → p < length walk.marks.items → is_in seeds p ≡ true → is_in walk.marks.items p ≡ true

-- The slots from which control comes to the seeds, just those.
pub record AreBack (behind jump : ℕ → Option ℕ) (seeds : ℕ → Bool) (n : ℕ) (marks : List Bool) : Type 0 where
  pub size : length marks ≡ n
  pub here : (p : ℕ) → p < n → seeds p ≡ true → is_in marks p ≡ true
  pub on : (p q : ℕ) → p < n → behind p ≡ Some q → is_in marks q ≡ true → is_in marks p ≡ true
  pub jumps : (p q : ℕ) → p < n → jump p ≡ Some q → is_in marks q ≡ true → is_in marks p ≡ true
  pub sound : (p : ℕ) → is_in marks p ≡ true → Comes behind jump seeds p
