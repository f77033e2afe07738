-- What a run of steps makes of the histories that a keeper and a machine stand for.
use Rattle.std.proofs.Common.{◌≡◌, ◌≤◌, ◌==◌, ◌+◌, ℕ, zero, suc, Bool, true, false, List, [], ◌∷◌, map, refl, sym, ap, subst, ◌∙◌, arith}
use Rattle.std.specs.Prelude.{sum_by}
use Rattle.bpf_entries.specs.Keeping.{Kept, kept_weight, keep}
use Rattle.bpf_machine.specs.declared.moves.Move.TheVariants.{Step}
use Rattle.bpf_steps.specs.Entries.{step_entry}
use Rattle.bpf_steps.specs.State.{State}
use Rattle.bpf_ring.specs.Runs.{AreSteps, state_after, kept_after}
use Rattle.bpf_journal.specs.Again.{again_of}
use Rattle.bpf_journal.specs.Histories.{HasHistory, IsRun, Record, StandsFor, kept_of, record_weight}
use Rattle.bpf_journal.specs.Runs.{Ends, history_after}
use Rattle.bpf_journal.specs.Timelines.{record_of}
use Rattle.bpf_journal.specs.Tracks.{CourseValue, Follows, IsAhead, IsCourse, RingHolds, Track, ring_room, track_after}
use Rattle.bpf_journal.proofs.Fitting.{fit_within, map-fit, run-fit}

-- where it leads, by steps
pub ends_state : (test : Bool → State → Bool) (most : ℕ) (x y : State) (n : ℕ) (cut : Bool) → Ends test most x y n cut → y ≡ state_after n x
ends_state test most x y n false e = e.state
ends_state test most x y n true e = e.0.state

pub ends_steps : (test : Bool → State → Bool) (most : ℕ) (x y : State) (n : ℕ) (cut : Bool) → Ends test most x y n cut → AreSteps x n
ends_steps test most x y n false e = e.steps
ends_steps test most x y n true e = e.0.steps

-- what is kept of the history after it
run_kept : (room n : ℕ) (x : State) (h : List Record) → map kept_of (history_after room n x h) ≡ kept_after room n x (map kept_of h)
run_kept room zero x h = refl
run_kept room (suc k) x h =
    map-fit kept_of kept_weight room (record_of (state_after k x) Step (k == 0) ∷ history_after room k x h)
    ∙ ap (λ es. keep kept_weight room es (step_entry (state_after k x), k == 0)) (run_kept room k x h)

run_leads : (room n : ℕ) (x : State) (h : List Record) → AreSteps x n → IsRun h x → IsRun (history_after room n x h) (state_after n x)
run_leads room zero x h steps run = run
run_leads room (suc k) x h steps run =
    run-fit room (record_of (state_after k x) Step (k == 0) ∷ history_after room k x h) (state_after (suc k) x)
    (steps k (omega arith), run_leads room k x h (λ j low. steps j (omega (arith, low))) run)

module _ {K : Type 0} (holds : K → List Kept → Type 0) where
  pub run_stands : (room n : ℕ) (old new : K) (x y : State) → y ≡ state_after n x → AreSteps x n → ((es : List Kept) → holds old es → holds new (kept_after room n x es)) → (h : List Record) → StandsFor holds old x h → StandsFor holds new y (history_after room n x h)
  run_stands room n old new x y is steps push h s = (
    subst (holds new) (sym (run_kept room n x h)) (push (map kept_of h) s.0),
    subst (IsRun (history_after room n x h)) (sym is) (run_leads room n x h steps s.1),
  )

  pub run_history : (room n : ℕ) (old new : K) (x y : State) → y ≡ state_after n x → AreSteps x n → ((es : List Kept) → holds old es → holds new (kept_after room n x es)) → HasHistory holds old x → HasHistory holds new y
  run_history room n old new x y is steps push i = record {
    history = history_after room n x i.history;
    stands = run_stands room n old new x y is steps push i.history i.stands;
  }

  -- what was taken back before is forgotten after the first step
  pub run_follows : (room n : ℕ) (old new : CourseValue K) → ((h : List Record) → StandsFor holds old.keeper old.state h → StandsFor holds new.keeper new.state (history_after room n old.state h)) → new.state ≡ state_after n old.state → ring_room old.redo ≡ room → ring_room new.redo ≡ ring_room old.redo → (1 ≤ n → RingHolds new.redo []) → (n ≡ 0 → new.redo ≡ old.redo)
      → (t : Track) → Follows holds old t → Follows holds new (track_after room n old.state t)
  run_follows room zero old new kept state size same empty stays t f = record {
    history = kept t.history f.history;
    held = subst (λ ring. RingHolds ring (map again_of t.ahead)) (sym (stays refl)) f.held;
    ahead = subst (λ x. IsAhead x t.ahead) (sym state) f.ahead;
    within = subst (λ ring. sum_by record_weight t.history + sum_by record_weight t.ahead ≤ ring_room ring) (sym (stays refl)) f.within;
  }
  run_follows room (suc k) old new kept state size same empty stays t f =
      let fits = fit_within record_weight room (record_of (state_after k old.state) Step (k == 0) ∷ history_after room k old.state t.history) in
      let zero : sum_by record_weight [] ≡ 0 = refl in
      record {
        history = kept t.history f.history;
        held = empty (omega arith);
        ahead = tt;
        within = omega (arith, fits, size, same, zero);
      }

  pub run_course : (room : K → ℕ) (n : ℕ) (old new : CourseValue K) → ((h : List Record) → StandsFor holds old.keeper old.state h → StandsFor holds new.keeper new.state (history_after (room old.keeper) n old.state h)) → new.state ≡ state_after n old.state → ring_room new.redo ≡ ring_room old.redo → (1 ≤ n → RingHolds new.redo []) → (n ≡ 0 → new.redo ≡ old.redo) → room new.keeper ≡ room old.keeper
      → IsCourse holds room old → IsCourse holds room new
  run_course room n old new kept state same empty stays roomy i = record {
    track = track_after (room old.keeper) n old.state i.track;
    follows = run_follows (room old.keeper) n old new kept state i.size same empty stays i.track i.follows;
    size = same ∙ i.size ∙ sym roomy;
  }
