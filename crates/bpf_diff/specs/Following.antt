-- Scaffolding: no public contract cites this. Two runs that go forward in step.
use Rattle.std.specs.Prelude.{◌≡◌, ◌≤◌, ◌<◌, ◌+◌, ◌-◌, ◌⊎◌, ℕ, Bool, true, false, not, ◌&&◌, List, [], ◌∷◌, Option, Some, None}
use Rattle.bpf_entries.specs.Status.{has_ended}
use Rattle.bpf_steps.specs.Runs.{Steps}
use Rattle.bpf_steps.specs.State.{State}
use Rattle.bpf_origin.specs.declared.place.Part.{Part}
use Rattle.bpf_origin.specs.declared.place.Part.TheVariants as part
use Rattle.bpf_trace.specs.Taken.{Took, register_by}
use Rattle.bpf_trace.specs.Runs.{steps_of}
use Rattle.bpf_diff.specs.Alike.{alike, same_slot}
use Rattle.bpf_diff.specs.Differences.{agreeing}
use Rattle.bpf_diff.specs.declared.follow.Parted.{Parted}
use Rattle.bpf_diff.specs.declared.wrote.Piece.{Piece}
use Rattle.bpf_diff.specs.declared.wrote.Piece.TheVariants as piece
use Rattle.bpf_diff.specs.declared.wrote.Wrote.{Wrote}
use Rattle.bpf_diff.specs.declared.wrote.Wrote.TheVariants.{Nothing, One, Two}

-- The part that a piece is, of the step that led to y.
abbrev pub part_of : State → Piece → Part
part_of y (piece.Register r) = register_by y r
part_of y (piece.Bytes a n) = part.Bytes a n
part_of y (piece.Word i) = part.Word i

abbrev pub parts_of : State → Wrote → List Part
parts_of y Nothing = []
parts_of y (One p) = part_of y p ∷ []
parts_of y (Two p q) = part_of y p ∷ part_of y q ∷ []

-- Both run, and stand at one slot.
abbrev pub are_together : State → State → Bool
are_together x y = not (has_ended x.status) && (not (has_ended y.status) && same_slot x y)

-- So many steps of both, which agree by a test; those that agree from there on follow.
pub record Along (test : State → State → Bool) (limit : ℕ) (x y a b : State) (n : ℕ) : Type 0 where
  pub first : Steps x a n
  pub second : Steps y b n
  pub within : n ≤ limit
  pub rest : agreeing test (steps_of limit x) (steps_of limit y) ≡ n + agreeing test (steps_of (limit - n) a) (steps_of (limit - n) b)

-- None does.
pub record Goes (test : State → State → Bool) (limit : ℕ) (x y a b : State) (n : ℕ) : Type 0 where
  pub along : Along test limit x y a b n
  pub agreed : agreeing test (steps_of limit x) (steps_of limit y) ≡ n

-- Steps that did alike, up to p and q.
pub record GoesAlike (limit : ℕ) (x y p q : State) (n : ℕ) : Type 0 where
  pub alike : Goes alike limit x y p q n
  pub together : Along same_slot limit x y p q n

-- The step that did not do alike, if there is one, led both from one slot to where they stand.
pub record Parting (limit : ℕ) (x y a b : State) (n : ℕ) (parted : Parted) : Type 0 where
  pub p : State
  pub q : State
  pub goes : GoesAlike limit x y p q n
  pub less : n < limit
  pub both : are_together p q ≡ true
  pub first : Took p a parted.first
  pub second : Took q b parted.second

abbrev pub Parts : Option Parted → ℕ → ℕ → State → State → State → State → Type 0
Parts None limit n x y a b = GoesAlike limit x y a b n × ((n ≡ limit) ⊎ (are_together a b ≡ false))
Parts (Some parted) limit n x y a b = Parting limit x y a b n parted
