-- Scaffolding: one move of the pass over a history. No public contract cites this.
use Rattle.std.specs.Prelude.{◌≡◌, ◌≤◌, ◌<◌, ℕ, ◌+◌, ◌-◌, List, [], ◌∷◌, ◌++◌, Option, Some, None, Result, false, length}
use Rattle.counted_io.specs.Counted.{Tally}
use Rattle.counted_io.specs.Writing.{WritesAfter}
use Rattle.counted_io.specs.declared.fault.WriteFault.{WriteFault}
use Rattle.bpf_ring.specs.declared.touched.Touched.{Touched}
use Rattle.bpf_ring.specs.declared.touched.Touched.TheVariants as touched
use Rattle.bpf_journal.specs.Histories.{Record}
use Rattle.bpf_journal.specs.Tracks.{Track}
use Rattle.bpf_machine.specs.Moves.{overwritten}
use Rattle.bpf_steps.specs.State.{State}
use Rattle.bpf_origin.specs.declared.place.Part.{Part}
use Rattle.bpf_origin.specs.declared.place.Part.TheVariants as part
use Rattle.bpf_origin.specs.declared.place.Place.{Place}
use Rattle.bpf_origin.specs.declared.question.Question.{Question}
use Rattle.bpf_origin.specs.declared.question.Extent.{Extent}
use Rattle.bpf_origin.specs.declared.question.Extent.TheVariants.{Places}
use Rattle.bpf_origin.specs.declared.origin.Turn.{Turn}
use Rattle.bpf_origin.specs.Pasts.{StandsThere, gone_back, stand}
use Rattle.bpf_origin.specs.Places.{depth_for}
use Rattle.bpf_origin.specs.Reads.{followed}
use Rattle.bpf_origin.specs.Wanted.{are_hit, most_places, still_wanted, want_parts}
use Rattle.bpf_origin.specs.Writes.{written}
use Rattle.bpf_origin.specs.Texts.{tail, places_text}
use Rattle.bpf_origin.specs.Answers.{answer, with_line}

-- Whether what was told could be written.
abbrev pub Written : Type 0
Written = Result (Unit {0}) WriteFault

-- What a move wrote that touched this, by the depth and the count of traced words after it.
abbrev pub parts_of : ℕ → ℕ → Touched → List Part
parts_of d words touched.Nothing = []
parts_of d words (touched.Register r) = part.Register (depth_for d r) r ∷ []
parts_of d words (touched.Bytes a n) = part.Bytes a n ∷ []
parts_of d words (touched.Both r a n) = part.Register (depth_for d r) r ∷ part.Bytes a n ∷ []
parts_of d words (touched.Frame a n) = part.Bytes a n ∷ []
parts_of d words touched.Word = part.Register (depth_for d 0) 0 ∷ part.Word (words - 1) ∷ []

-- A turn takes the one record back, and leaves room for so many lines where the pass goes on.
pub record TakesOne (left : ℕ) (turn : Turn) : Type 0 where
  pub lines : turn.cut ≡ None → turn.lines ≡ left
  pub one : turn.taken ≡ 1

module _ {W : Type 0} (contents : W → Option (List ℕ)) where
  -- It was told from the middle of its line on, and what it read is wanted, unless there is no room for that.
  pub record TellsRest (q : Question) (r : Record) (wanted left : List Place) (old : Tally W) (before : Written) (now : Tally W) (turn : Turn) : Type 0 where
    pub on : turn.cut ≡ None →
        WritesAfter contents old before now turn.written (tail q.places r.before r.move (followed q.addresses r.before r.move))
        × (left ≡ want_parts wanted (followed q.addresses r.before r.move)) × (length left ≤ most_places)
    pub cut : (e : Extent) → turn.cut ≡ Some e →
        (e ≡ Places) × (most_places < length (want_parts wanted (followed q.addresses r.before r.move)))
        × WritesAfter contents old before now turn.written (tail q.places r.before r.move (followed q.addresses r.before r.move) ++ places_text)

module _ {P : Type 0} (state : P → State) (follows : P → Track → Type 0) where
  -- The newest record wrote no wanted place and was taken back: what is wanted still is left.
  pub record PassesOver (wanted left : List Place) (r : Record) (h f : List Record) (y : State) (new : P) : Type 0 where
    pub missed : are_hit (written y (overwritten r.before r.move)) wanted ≡ false
    pub still : left ≡ still_wanted y (overwritten r.before r.move) wanted
    pub back : StandsThere state follows new (stand h (r ∷ f) r.before)

module _ {P W : Type 0} (state : P → State) (follows : P → Track → Type 0) (contents : W → Option (List ℕ)) where
  -- The newest record was taken back.
  abbrev pub WentBack : Record → List Record → List Record → P → Type 0
  WentBack r h f new = StandsThere state follows new (stand h (r ∷ f) r.before)

  -- A turn: what it wrote with the answer from there on is the answer from here on, or it wrote all of that. It says whether it took the
  -- record back.
  pub record TakesTurn (q : Question) (k n : ℕ) (wanted left : List Place) (r : Record) (h f : List Record) (y : State) (new : P) (old : Tally W) (before : Written) (now : Tally W) (turn : Turn) : Type 0 where
    pub on : turn.cut ≡ None →
        WentBack r h f new
        × ((piece : List ℕ) × WritesAfter contents old before now turn.written piece
        × (answer q k n wanted (r ∷ h) y ≡ with_line piece (answer q (k + 1) turn.lines left h r.before)))
    pub cut : (e : Extent) → turn.cut ≡ Some e →
        ((answer q k n wanted (r ∷ h) y).extent ≡ e)
        × WritesAfter contents old before now turn.written (answer q k n wanted (r ∷ h) y).text
    pub far : StandsThere state follows new (gone_back turn.taken (r ∷ h) f y)
