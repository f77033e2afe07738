-- The branches as a text of their own: the course is made anew as it was.
use Rattle.std.proofs.Common.{◌≡◌, ℕ, List, [], subst}
use Rattle.bpf_journal.specs.Histories.{Record}
use Rattle.bpf_journal.specs.Tracks.{CourseValue, RingHolds, track_of}
use Rattle.bpf_origin.specs.Pasts.{CourseStands, gone_from, stand}
use Rattle.bpf_ring.specs.declared.keeper.RingKeeper.{RingKeeper}
use Rattle.bpf_steps.specs.State.{State}

-- where nothing is left the course stands where it stood
pub all_again : (left : ℕ) (h : List Record) (y : State) (new : CourseValue RingKeeper) → left ≡ 0
    → CourseStands RingHolds new (gone_from left (track_of h) y) → CourseStands RingHolds new (stand h [] y)
all_again left h y new none stands = subst (λ (n : ℕ). CourseStands RingHolds new (gone_from n (track_of h) y)) none stands
