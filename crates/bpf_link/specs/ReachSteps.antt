-- How the slots that are reached are found: those that are to be looked at stand in a queue.
use Rattle.std.specs.Prelude.{◌≡◌, ◌<◌, ◌≤◌, ℕ, ◌/◌, Bool, true, List, count_by, length, slice_index}
use Rattle.bpf_link.specs.declared.reach.Walk.{Walk}
use Rattle.bpf_link.specs.Reach.{IsClosed, is_reached, leads}

-- A slot stands in a queue.
abbrev pub StandsIn : List ℕ → ℕ → Type 0
StandsIn queue slot = (i : ℕ) × (i < length queue) × (slice_index queue i ≡ slot)

-- The slots in the queue are those that are marked, each once, and each is in every closed set.
pub record IsWalk (words : List ℕ) (entry : ℕ) (walk : Walk) : Type 0 where
  pub size : length walk.reach.items ≡ length words / 8
  pub marked : (i : ℕ) → i < length walk.queue.items → is_reached walk.reach.items (slice_index walk.queue.items i) ≡ true
  pub queued : (slot : ℕ) → is_reached walk.reach.items slot ≡ true → StandsIn walk.queue.items slot
  pub once : count_by (λ reached. reached) walk.reach.items ≡ length walk.queue.items
  pub least : (set : ℕ → Bool) → IsClosed words entry set → (slot : ℕ) → is_reached walk.reach.items slot ≡ true → set slot ≡ true

-- A slot is in every closed set.
abbrev pub IsCertain : List ℕ → ℕ → ℕ → Type 0
IsCertain words entry slot = (set : ℕ → Bool) → IsClosed words entry set → set slot ≡ true

-- A walk went on: what was marked is, and the queue begins as it was.
pub record GoesOn (old new : Walk) : Type 0 where
  pub kept : (slot : ℕ) → is_reached old.reach.items slot ≡ true → is_reached new.reach.items slot ≡ true
  pub size : length new.reach.items ≡ length old.reach.items
  pub longer : length old.queue.items ≤ length new.queue.items
  pub begins : (i : ℕ) → i < length old.queue.items → slice_index new.queue.items i ≡ slice_index old.queue.items i

-- All to which a slot leads is marked.
abbrev pub IsDone : List ℕ → List Bool → ℕ → Type 0
IsDone words reach slot = (next : ℕ) → leads words slot next ≡ true → next < length reach → is_reached reach next ≡ true

-- A walk that has come to a slot, unless that is behind the last one.
pub record ComesTo (slot : ℕ) (old new : Walk) : Type 0 where
  pub on : GoesOn old new
  pub there : slot < length new.reach.items → is_reached new.reach.items slot ≡ true
  pub walk : (words : List ℕ) (entry : ℕ) → IsWalk words entry old → IsCertain words entry slot → IsWalk words entry new

-- A walk that has come from a slot to another, where a test holds.
pub record GoesFrom (words : List ℕ) (slot next : ℕ) (test : Bool) (old new : Walk) : Type 0 where
  pub on : GoesOn old new
  pub there : test ≡ true → next < length new.reach.items → is_reached new.reach.items next ≡ true
  pub walk : (entry : ℕ) → IsWalk words entry old → (test ≡ true → IsCertain words entry next) → IsWalk words entry new

-- A walk that has looked at a slot.
pub record LooksAt (words : List ℕ) (slot : ℕ) (old new : Walk) : Type 0 where
  pub on : GoesOn old new
  pub done : IsDone words new.reach.items slot
  pub walk : (entry : ℕ) → IsWalk words entry old → is_reached old.reach.items slot ≡ true → IsWalk words entry new
