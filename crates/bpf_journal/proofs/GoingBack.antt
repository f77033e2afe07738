-- Moves that are taken back together, of the records of a history.
use Rattle.std.proofs.Common.{◌≡◌, ◌≤◌, ◌+◌, ℕ, zero, suc, Bool, List, [], ◌∷◌, map, refl, sym, ap, subst, ◌∙◌, arith}
use Rattle.std.specs.Prelude.{sum_by}
use Rattle.std.proofs.lemmas.List.Sums.{sum_by-cons}
use Rattle.bpf_entries.specs.declared.entry.Entry.{Entry}
use Rattle.bpf_entries.specs.Keeping.{Kept}
use Rattle.bpf_machine.specs.Moves.{Leads, moved, overwritten}
use Rattle.bpf_steps.specs.State.{State}
use Rattle.bpf_ring.specs.declared.backward.Stays.{Stays}
use Rattle.bpf_ring.specs.Blocks.{Content}
use Rattle.bpf_ring.specs.Held.{IsHeld}
use Rattle.bpf_ring.specs.Ways.{HandsBack, HoldsWholeWay, IsWay, kept_by}
use Rattle.bpf_ring.specs.declared.counts.Counts.{Counts}
use Rattle.bpf_journal.specs.Again.{again_of}
use Rattle.bpf_journal.specs.GoingBack.{GoesBackBy, made_of}
use Rattle.bpf_journal.specs.Histories.{HasHistory, IsRun, Record, kept_of, record_weight}
use Rattle.bpf_journal.specs.Tracks.{CourseValue, IsAhead, IsCourse, RingHolds, ring_room}
use Rattle.bpf_journal.proofs.MadeAgain.{seen_is, seen_step}

-- Records, as the ring knows them, are kept as they are, and lead on as they do.
pub kept_made : (h : List Record) → map kept_of h ≡ map kept_by (map made_of h)
kept_made [] = refl
kept_made (r ∷ h) = ap (λ (ks : List Kept). kept_of r ∷ ks) (kept_made h)

pub way_of : (h : List Record) (y : State) → IsRun h y → IsWay (map made_of h) y
way_of [] y run = tt
way_of (r ∷ h) y run = (run.0, way_of h r.before run.1)

pub holds_whole : (content : Content) (counts : Counts) (y : State) (h : List Record) → IsHeld content counts (map kept_of h) → IsRun h y → HoldsWholeWay content counts y
holds_whole content counts y h held run = record { ws = map made_of h; held = subst (IsHeld content counts) (kept_made h) held; way = way_of h y run }

module _ {K : Type 0} (holds : K → List Kept → Type 0) (marks : List Bool) (stays : Stays) where
  -- a history is left
  pub history_back : (new : K) (z : State) (other : List Kept → Type 0) (n : ℕ) (h : List Record) (ls : List Kept) (y : State) → IsRun h y
      → HandsBack marks stays z (holds new) other n (map made_of h) ls y → HasHistory holds new z
  history_back new z other zero h ls y run there = record {
    history = h;
    stands = (subst (holds new) (sym (kept_made h)) there.1, subst (IsRun h) (sym there.0) run);
  }
  history_back new z other (suc n) [] ls y run there = absurd there
  history_back new z other (suc n) (r ∷ h) ls y run there = history_back new z other n h (kept_of r ∷ ls) r.before run.1 there.1

  -- a track is left
  module _ (new : CourseValue K) (room : ℕ) (held : List Kept → Type 0) (into : (ms : List Kept) → held ms → RingHolds new.redo ms) (same : ring_room new.redo ≡ room) where
    pub track_back : (n : ℕ) (h f : List Record) (y : State) → IsRun h y → IsAhead y f → sum_by record_weight h + sum_by record_weight f ≤ room
        → HandsBack marks stays new.state (holds new.keeper) held n (map made_of h) (map again_of f) y → GoesBackBy holds marks stays new n h f y
    track_back zero h f y run ahead within there = (
      there.0,
      record {
        history = (subst (holds new.keeper) (sym (kept_made h)) there.1, subst (IsRun h) (sym there.0) run);
        held = into (map again_of f) there.2;
        ahead = subst (λ (x : State). IsAhead x f) (sym there.0) ahead;
        within = omega (arith, within, same);
      },
    )
    track_back (suc n) [] f y run ahead within there = absurd there
    track_back (suc n) (r ∷ h) f y run ahead within there =
        let again : kept_of r ≡ again_of r = ap (λ (e : Entry). (e, r.mark)) (sym (seen_step y (overwritten r.before r.move) there.0.step) ∙ seen_is r.before y r.move run.0) in
        let onward : Leads r.before r.move (moved r.before r.move) = subst (Leads r.before r.move) run.0.after run.0 in
        let more : IsAhead (moved r.before r.move) f = subst (λ (x : State). IsAhead x f) run.0.after ahead in
        let one = sum_by-cons record_weight r h in
        let two = sum_by-cons record_weight r f in (
          there.0,
          track_back n h (r ∷ f) r.before run.1 (refl, onward, more) (omega (arith, within, one, two))
              (subst (λ (k : Kept). HandsBack marks stays new.state (holds new.keeper) held n (map made_of h) (k ∷ map again_of f) r.before) again there.1),
        )

  -- there is one then
  pub course_back : (room : K → ℕ) (new : CourseValue K) (n : ℕ) (h f : List Record) (y : State) → ring_room new.redo ≡ room new.keeper
      → GoesBackBy holds marks stays new n h f y → IsCourse holds room new
  course_back room new zero h f y size there = record { track = record { history = h; ahead = f }; follows = there.1; size = size }
  course_back room new (suc n) [] f y size there = absurd there
  course_back room new (suc n) (r ∷ h) f y size there = course_back room new n h (r ∷ f) r.before size there.1
