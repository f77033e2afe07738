-- Scaffolding: the pass over a history. No public contract cites this.
use Rattle.std.specs.Prelude.{◌≡◌, ℕ, ◌+◌, Bool, List, Option, Some, None, length}
use Rattle.bpf_steps.specs.State.{State}
use Rattle.bpf_journal.specs.Histories.{Record, is_step}
use Rattle.bpf_journal.specs.Tracks.{Track}
use Rattle.bpf_origin.specs.Pasts.{StandsThere, gone_from, stand}
use Rattle.bpf_whynot.specs.Answers.{Query, left_after, left_by, never_text, only}
use Rattle.bpf_whynot.specs.Standings.{standing}
use Rattle.bpf_whynot.specs.declared.whynot.Left.{Left}

module _ {P : Type 0} (state : P → State) (follows : P → Track → Type 0) (test : ℕ → State → Bool) (t : Track) (y : State) (new : P) where
  -- All moves were taken back, up to that which is looked for, and that one.
  pub record IsLeft (left : Left) : Type 0 where
    pub record_left : Record
    pub older : List Record
    pub ahead : List Record
    pub next : State
    pub way : gone_from left.moves t y ≡ stand older ahead record_left.before
    pub stands : StandsThere state follows new (stand older ahead record_left.before)
    pub is : (s : Query) → left_after test s 0 t.history y ≡ left_by s left.moves record_left older next
    pub step : left.is_step ≡ is_step record_left.move
    pub after : left.after ≡ standing next
    pub count : length older + left.moves ≡ length t.history

  -- All were, and none of them was such a one.
  pub record IsNeverLeft : Type 0 where
    pub stands : StandsThere state follows new (gone_from (length t.history) t y)
    pub is : (s : Query) → left_after test s 0 t.history y ≡ only (never_text s.question.opening)

  abbrev pub GoesTo : Option Left → Type 0
  GoesTo (Some left) = IsLeft left
  GoesTo None = IsNeverLeft
