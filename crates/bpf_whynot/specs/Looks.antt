-- Answers that leave a course where it stands.
use Rattle.std.specs.Prelude.{◌≡◌, ℕ, List}
use Rattle.bpf_entries.specs.Keeping.{Kept}
use Rattle.bpf_journal.specs.Tracks.{CourseValue, Follows, Track}
use Rattle.bpf_origin.specs.Pasts.{CourseStands, LeavesMoves, gone_from}

-- A course stands where it stood, or so many moves before that as are left, since its keeper refused to keep one again.
pub record ComesBack {K : Type 0} (holds : K → List Kept → Type 0) (refusals room : K → ℕ) (old new : CourseValue K) (left : ℕ) : Type 0 where
  pub stands : (t : Track) → Follows holds old t → CourseStands holds new (gone_from left t old.state)
  pub leaves : LeavesMoves refusals old.keeper new.keeper left
  pub size : room new.keeper ≡ room old.keeper
