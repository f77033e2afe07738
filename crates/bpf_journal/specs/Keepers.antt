-- What a keeper's calls say of the lists that it holds.
use Rattle.std.specs.Prelude.{◌≡◌, ◌≤◌, ℕ, Bool, List, [], ◌∷◌, ◌++◌, Option, Some, None, Result, Ok, Err, OnOk, OnErr, drop, sum_by}
use Rattle.bpf_entries.specs.declared.entry.Entry.{Entry}
use Rattle.bpf_ring.specs.Quiet.{AreQuiet}
use Rattle.bpf_ring.specs.declared.quiet.PassedOver.{PassedOver}
use Rattle.bpf_journal.specs.Counts.{one_more}
use Rattle.bpf_entries.specs.Keeping.{IsSize, Kept, keep, kept_weight}
use Rattle.bpf_journal.specs.Histories.{newest, older}
use Rattle.bpf_journal.specs.Replaced.{byte_before, depth_before}
use Rattle.bpf_steps.specs.Next.{next}
use Rattle.bpf_steps.specs.State.{State}

-- What is known of a kind of keeper: the lists that one holds, how often it has refused, and its room.
pub record Known (K : Type 0) : Type 1 where
  pub holds : K → List Kept → Type 0
  pub refusals : K → ℕ
  pub size : K → ℕ

abbrev pub known_by : {K : Type 0} → (K → List Kept → Type 0) → (K → ℕ) → (K → ℕ) → Known K
known_by holds refusals size = record { holds = holds; refusals = refusals; size = size }

-- How often a keeper has refused, after one more push.
abbrev pub refusals_after : {E : Type 0} → Result (Unit {0}) E → ℕ → ℕ
refusals_after (Ok u) n = n
refusals_after (Err e) n = one_more n

-- The state after a step that was kept or refused: a step that is refused is not taken.
abbrev pub next_after : {E : Type 0} → Result (Unit {0}) E → State → State
next_after (Ok u) x = next x
next_after (Err e) x = x

-- A front's newest, its mark, and the place of the front without it.
abbrev pub walked : (List Kept → ℕ) → List Kept → Option (Entry × Bool × ℕ)
walked place [] = None
walked place (e ∷ es) = Some (e.0, e.1, place es)

-- The byte at an address and the depth before the move of a front's newest, by those behind it, and the place of the front without it.
abbrev pub told_before : (List Kept → ℕ) → ℕ → ℕ → ℕ → List Kept → Option (ℕ × ℕ × ℕ)
told_before place depth address after [] = None
told_before place depth address after (e ∷ es) = Some (byte_before depth e.0 address after, depth_before depth e.0, place es)

module _ {K : Type 0} (holds : K → List Kept → Type 0) where
  -- One more is kept, in every list that was held, or refused, and then all that was held stays.
  pub record Keeps {E : Type 0} (refusals size : K → ℕ) (k : Kept) (result : Result (Unit {0}) E) (old new : K) : Type 0 where
    pub ok : OnOk result ((es : List Kept) → holds old es → holds new (keep kept_weight (size old) es k))
    pub err : OnErr result ((es : List Kept) → holds old es → holds new es)
    pub refused : refusals new ≡ refusals_after result (refusals old)
    pub room : size new ≡ size old

  -- The newest is taken off; nothing changes where nothing is held.
  abbrev pub TakesNewest : K → K → Option Kept → Type 0
  TakesNewest old new result = (es : List Kept) → holds old es → (result ≡ newest es) × holds new (older es)

  -- The place is that of a front: of a held list without so many of its newest.
  pub record IsPlace (place : K → List Kept → ℕ) (keeper : K) (at : ℕ) : Type 0 where
    pub newer : List Kept
    pub front : List Kept
    pub held : holds keeper (newer ++ front)
    pub here : place keeper front ≡ at

  -- A walk back answers of each front at the place.
  abbrev pub WalksBack : (K → List Kept → ℕ) → K → ℕ → Option (Entry × Bool × ℕ) → Type 0
  WalksBack place keeper at result =
      (newer front : List Kept) → holds keeper (newer ++ front) → place keeper front ≡ at → result ≡ walked (place keeper) front

  -- So many of the newest entries of the front at a place are of moves that left the byte at an address as it was, before them the depth of calls
  -- is this one, and that is the place of the others.
  pub record IsPassed (place : List Kept → ℕ) (address byte depth : ℕ) (front : List Kept) (passed : PassedOver) : Type 0 where
    pub quiet : AreQuiet address byte depth passed.depth passed.count front
    pub behind : place (drop passed.count front) ≡ passed.place

  abbrev pub Passes : (K → List Kept → ℕ) → K → ℕ → ℕ → ℕ → ℕ → PassedOver → Type 0
  Passes place keeper at address byte depth passed =
      (newer front : List Kept) → holds keeper (newer ++ front) → place keeper front ≡ at → IsPassed (place keeper) address byte depth front passed

  -- A byte and the depth are told of each front at the place.
  abbrev pub TellsByteBefore : (K → List Kept → ℕ) → K → ℕ → ℕ → ℕ → ℕ → Option (ℕ × ℕ × ℕ) → Type 0
  TellsByteBefore place keeper at depth address after result =
      (newer front : List Kept) → holds keeper (newer ++ front) → place keeper front ≡ at →
      result ≡ told_before (place keeper) depth address after front

  -- No two fronts of a held list have one place.
  abbrev pub PlacesDiffer : (K → List Kept → ℕ) → Type 0
  PlacesDiffer place =
      (keeper : K) (n m a b : List Kept) → holds keeper (n ++ a) → n ++ a ≡ m ++ b → place keeper a ≡ place keeper b → a ≡ b

-- The room is a journal's size, and what is held weighs at most the room.
pub record IsWithin (room : ℕ) (es : List Kept) : Type 0 where
  pub size : IsSize room
  pub weighs : sum_by kept_weight es ≤ room
