-- What is left of a course where its newest moves are taken back at once.
use Rattle.std.specs.Prelude.{◌≡◌, ℕ, zero, suc, Bool, List, [], ◌∷◌}
use Rattle.bpf_entries.specs.Keeping.{Kept}
use Rattle.bpf_steps.specs.State.{State}
use Rattle.bpf_ring.specs.declared.backward.Stays.{Stays}
use Rattle.bpf_ring.specs.Ways.{IsPlain, Made}
use Rattle.bpf_journal.specs.Histories.{Record, kept_of}
use Rattle.bpf_journal.specs.Tracks.{CourseValue, Follows}

-- The newest n records are taken back, one after another, from the state y on, each of a plain entry: it goes in front of those that were
-- taken back before.
module _ {K : Type 0} (holds : K → List Kept → Type 0) (marks : List Bool) (stays : Stays) (new : CourseValue K) where
  abbrev pub GoesBackBy : ℕ → List Record → List Record → State → Type 0
  GoesBackBy zero h f y = (new.state ≡ y) × Follows holds new (record { history = h; ahead = f })
  GoesBackBy (suc n) [] f y = ⊥
  GoesBackBy (suc n) (r ∷ h) f y = IsPlain marks stays (kept_of r) × GoesBackBy n h (r ∷ f) r.before

-- Scaffolding: a record, as the ring of entries knows it.
abbrev pub made_of : Record → Made
made_of r = record { before = r.before; move = r.move; mark = r.mark }
