-- Moves whose entries a ring holds, and what is left where the newest of them are taken back at once.
use Rattle.std.specs.Prelude.{◌≡◌, ◌≤◌, ◌++◌, ◌-◌, ℕ, zero, suc, Bool, true, false, List, [], ◌∷◌, Some, length, drop, map}
use Rattle.std.specs.Option.{option_map}
use Rattle.bpf_entries.specs.declared.entry.Entry.{Entry}
use Rattle.bpf_entries.specs.Keeping.{Kept}
use Rattle.bpf_entries.specs.Past.{Same, is_of_step, past}
use Rattle.bpf_entries.specs.Rings.{AllFit, ring}
use Rattle.bpf_entries.specs.Texts.{text}
use Rattle.bpf_entries.specs.Weights.{weight}
use Rattle.bpf_steps.specs.Kept.{Misses, is_marked}
use Rattle.bpf_machine.specs.declared.moves.Move.{Move}
use Rattle.bpf_machine.specs.Moves.{Leads, overwritten}
use Rattle.bpf_steps.specs.State.{State}
use Rattle.bpf_ring.specs.declared.backward.Stays.{Stays}
use Rattle.bpf_ring.specs.declared.backward.Stays.TheVariants.{Nothing, Depth, Bytes}
use Rattle.bpf_ring.specs.declared.counts.Counts.{Counts}
use Rattle.bpf_ring.specs.declared.keeper.RingKeeper.{RingKeeper}
use Rattle.bpf_ring.specs.Blocks.{Content}
use Rattle.bpf_ring.specs.Held.{IsHeld, RingHolds}
use Rattle.bpf_ring.specs.Moments.{Moment}

-- A move that was made, the state before it, and whether its entry is marked.
pub record Made : Type 0 where
  pub before : State
  pub move : Move
  pub mark : Bool

-- What is kept of it.
abbrev pub kept_by : Made → Kept
kept_by w = (overwritten w.before w.move, w.mark)

-- Each move leads to the state before the next newer one, and the newest to y.
abbrev pub IsWay : List Made → State → Type 0
IsWay [] y = Unit {0}
IsWay (w ∷ ws) y = Leads w.before w.move y × IsWay ws w.before

-- A ring holds the entries of some moves, which led to a state.
pub record HoldsWholeWay (content : Content) (counts : Counts) (y : State) : Type 0 where
  pub ws : List Made
  pub held : IsHeld content counts (map kept_by ws)
  pub way : IsWay ws y

-- An entry's move left as it was what is named: maybe nothing, the depth of calls, or the bytes at the addresses of a guard.
abbrev pub HasLeft : Stays → Entry → Type 0
HasLeft Nothing e = Unit {0}
HasLeft Depth e = (past 0 e).frames ≡ Same
HasLeft (Bytes guard) e = Misses guard e

-- An entry that may be taken back together with others: one of a step, without a mark, whose slot is not among those that a table marks, and
-- whose move left as it was what is named.
pub record IsPlain (marks : List Bool) (stays : Stays) (k : Kept) : Type 0 where
  pub step : is_of_step k.0 ≡ true
  pub unmarked : k.1 ≡ false
  pub slot : option_map (is_marked marks) (past 0 k.0).pc ≡ Some false
  pub spared : HasLeft stays k.0

-- The newest n of the moves that led to y are taken back, one after another, each of a plain entry, which goes in front of those that another
-- list has. That leads to z; what is left, and the other list then, are held.
module _ (marks : List Bool) (stays : Stays) (z : State) (left other : List Kept → Type 0) where
  abbrev pub HandsBack : ℕ → List Made → List Kept → State → Type 0
  HandsBack zero ws ls y = (z ≡ y) × left (map kept_by ws) × other ls
  HandsBack (suc n) [] ls y = ⊥
  HandsBack (suc n) (w ∷ ws) ls y = IsPlain marks stays (kept_by w) × HandsBack n ws (kept_by w ∷ ls) w.before

-- So many moves, at most `most`, were taken back so, and their entries went over to another ring. The sizes stay.
pub record HandsSteps (marks : List Bool) (stays : Stays) (most : ℕ) (old new : Moment RingKeeper) (other left : RingKeeper) (n : ℕ) : Type 0 where
  pub within : n ≤ most
  pub size : (new.keeper.ring.size ≡ old.keeper.ring.size) × (left.ring.size ≡ other.ring.size)
  pub handed : (ws : List Made) (ls : List Kept) → RingHolds old.keeper (map kept_by ws) → IsWay ws old.state
      → HandsBack marks stays new.state (RingHolds new.keeper) (λ ms. RingHolds other ls → RingHolds left ms) n ws ls old.state

-- Scaffolding: bytes are the text of entries, which fit their fields.
pub record HasText (bytes : List ℕ) (ks : List Kept) : Type 0 where
  pub fit : AllFit ks
  pub whole : bytes ≡ ring ks

-- Scaffolding: behind some older bytes, bytes are the text of the entries of moves, which led to a state.
pub record EndsWay (bytes : List ℕ) (y : State) : Type 0 where
  pub ws : List Made
  pub front : List ℕ
  pub held : HasText (front ++ bytes) (map kept_by ws)
  pub way : IsWay ws y

-- Scaffolding: so many of the newest bytes are the text of an entry that is plain.
pub record EndsPlain (marks : List Bool) (stays : Stays) (bytes : List ℕ) (n : ℕ) (k : Kept) : Type 0 where
  pub plain : IsPlain marks stays k
  pub weighs : n ≡ weight k.0
  pub newest : drop (length bytes - n) bytes ≡ text k.0 k.1
