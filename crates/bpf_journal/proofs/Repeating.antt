-- Steps that were taken back and are made again at once.
use Rattle.std.proofs.Common.{◌≡◌, ◌≤◌, ◌+◌, ℕ, zero, suc, true, false, List, [], ◌∷◌, map, take, drop, refl, sym, ap, subst, ◌∙◌, arith}
use Rattle.std.specs.Prelude.{sum_by}
use Rattle.std.proofs.lemmas.List.Elements.{All-cons, All-head, All-tail}
use Rattle.std.proofs.lemmas.List.Sums.{sum_by-cons}
use Rattle.bpf_entries.proofs.Keeping.{fit_all}
use Rattle.bpf_entries.specs.Keeping.{Kept, kept_weight, keep}
use Rattle.bpf_entries.specs.Past.{is_of_step}
use Rattle.bpf_machine.specs.declared.moves.Move.{Move}
use Rattle.bpf_machine.specs.declared.moves.Move.TheVariants as move
use Rattle.bpf_steps.specs.Entries.{step_entry}
use Rattle.bpf_machine.specs.Moves.{moved}
use Rattle.bpf_steps.specs.Next.{next}
use Rattle.bpf_steps.specs.State.{State}
use Rattle.bpf_ring.specs.Runs.{AreSteps, state_after, kept_on}
use Rattle.bpf_ring.specs.Stretches.{AreUnmarked, IsUnmarked}
use Rattle.bpf_journal.specs.Again.{again_entry, again_of}
use Rattle.bpf_journal.specs.Courses.{MakesAllAgain}
use Rattle.bpf_journal.specs.Histories.{HasHistory, IsRun, Record, StandsFor, kept_of, record_weight}
use Rattle.bpf_journal.specs.Runs.{history_on}
use Rattle.bpf_journal.specs.Timelines.{record_of}
use Rattle.bpf_journal.specs.Tracks.{CourseValue, IsAhead, IsCourse, RingHolds, ring_room}
use Rattle.bpf_journal.proofs.Fitting.{map-fit, run-fit}
use Rattle.bpf_journal.proofs.MadeAgain.{again_of_edit}

-- what is kept of the history after them
on_kept : (room n : ℕ) (x : State) (h : List Record) → map kept_of (history_on room n x h) ≡ kept_on room n x (map kept_of h)
on_kept room zero x h = refl
on_kept room (suc k) x h =
    map-fit kept_of kept_weight room (record_of (state_after k x) move.Step false ∷ history_on room k x h)
    ∙ ap (λ es. keep kept_weight room es (step_entry (state_after k x), false)) (on_kept room k x h)

on_leads : (room n : ℕ) (x : State) (h : List Record) → AreSteps x n → IsRun h x → IsRun (history_on room n x h) (state_after n x)
on_leads room zero x h steps run = run
on_leads room (suc k) x h steps run =
    run-fit room (record_of (state_after k x) move.Step false ∷ history_on room k x h) (state_after (suc k) x)
    (steps k (omega arith), on_leads room k x h (λ j low. steps j (omega (arith, low))) run)

-- the first of them in front of the others
state_first : (k : ℕ) (x : State) → state_after (suc k) x ≡ state_after k (next x)
state_first zero x = refl
state_first (suc k) x = ap next (state_first k x)

history_first : (room n : ℕ) (x : State) (h : List Record) → history_on room (suc n) x h ≡ history_on room n (next x) (keep record_weight room h (record_of x move.Step false))
history_first room zero x h = refl
history_first room (suc k) x h =
    ap (λ (t : List Record). keep record_weight room t (record_of (state_after (suc k) x) move.Step false)) (history_first room k x h)
    ∙ ap (λ (z : State). keep record_weight room (history_on room k (next x) (keep record_weight room h (record_of x move.Step false))) (record_of z move.Step false)) (state_first k x)

-- a record that is kept without a mark, as a step's
plain_record : (r : Record) (x : State) → r.before ≡ x → IsUnmarked (again_of r) → r ≡ record_of x move.Step false
plain_record r x at p = by_move r.move refl where
  by_move : (m : Move) → r.move ≡ m → r ≡ record_of x move.Step false
  by_move move.Step e =
      ap (λ (y : State). record_of y r.move r.mark) at
      ∙ ap (λ (m : Move). record_of x m r.mark) e
      ∙ ap (record_of x move.Step) p.1
  by_move (move.Edit edit) e =
      let none : true ≡ false = sym p.0 ∙ ap (λ (m : Move). is_of_step (again_entry r.before m)) e ∙ again_of_edit edit in
      absurd cc

-- fewer of them
pub fewer_plain : (n m : ℕ) (ks : List Kept) → n ≤ m → AreUnmarked m ks → AreUnmarked n ks
fewer_plain zero m ks less plain = record { there = omega arith; plain = λ i d h. absurd (omega (arith, h)) }
fewer_plain (suc n) zero ks less plain = absurd (omega (arith, less))
fewer_plain (suc n) (suc m) [] less plain = absurd (omega (arith, plain.there))
fewer_plain (suc n) (suc m) (k ∷ ks) less plain =
    let rest = fewer_plain n m ks (omega (arith, less)) (record { there = omega (arith, plain.there); plain = All-tail IsUnmarked k (take m ks) plain.plain }) in
    record { there = omega (arith, rest.there); plain = All-cons IsUnmarked k (take n ks) (All-head IsUnmarked k (take m ks) plain.plain) rest.plain }

module _ {K : Type 0} (holds : K → List Kept → Type 0) where
  pub on_stands : (room n : ℕ) (old new : K) (x y : State) → y ≡ state_after n x → AreSteps x n → ((es : List Kept) → holds old es → holds new (kept_on room n x es)) → (h : List Record) → StandsFor holds old x h → StandsFor holds new y (history_on room n x h)
  on_stands room n old new x y is steps push h s = (
    subst (holds new) (sym (on_kept room n x h)) (push (map kept_of h) s.0),
    subst (IsRun (history_on room n x h)) (sym is) (on_leads room n x h steps s.1),
  )

  pub on_history : (room n : ℕ) (old new : K) (x y : State) → y ≡ state_after n x → AreSteps x n → ((es : List Kept) → holds old es → holds new (kept_on room n x es)) → HasHistory holds old x → HasHistory holds new y
  on_history room n old new x y is steps push i = record {
    history = history_on room n x i.history;
    stands = on_stands room n old new x y is steps push i.history i.stands;
  }

  -- they go from what is ahead to the history
  pub all_again : (room n : ℕ) (new : CourseValue K) (h f : List Record) (x : State) → new.state ≡ state_after n x → AreUnmarked n (map again_of f) → IsAhead x f → sum_by record_weight h + sum_by record_weight f ≤ room → ring_room new.redo ≡ room → StandsFor holds new.keeper new.state (history_on room n x h) → RingHolds new.redo (drop n (map again_of f)) → MakesAllAgain holds n h f x new
  all_again room zero new h f x state plain ahead within size stands ring = (
    state,
    record {
      history = stands;
      held = ring;
      ahead = subst (λ (y : State). IsAhead y f) (sym state) ahead;
      within = omega (arith, within, size);
    },
  )
  all_again room (suc n) new h [] x state plain ahead within size stands ring = absurd (omega (arith, plain.there))
  all_again room (suc n) new h (r ∷ f) x state plain ahead within size stands ring =
      let first = All-head IsUnmarked (again_of r) (take n (map again_of f)) plain.plain in
      let is : r ≡ record_of x move.Step false = plain_record r x ahead.0 first in
      let on : moved r.before r.move ≡ next x = ap (λ (q : Record). moved q.before q.move) is in
      let one = sum_by-cons record_weight r f in
      let two = sum_by-cons record_weight r h in
      let fits : keep record_weight room h r ≡ r ∷ h = fit_all record_weight room (r ∷ h) (omega (arith, one, two, within)) in
      let whole : history_on room (suc n) x h ≡ history_on room n (moved r.before r.move) (r ∷ h) =
      history_first room n x h
      ∙ ap (λ (q : Record). history_on room n (next x) (keep record_weight room h q)) (sym is)
      ∙ ap (history_on room n (next x)) fits
      ∙ ap (λ (z : State). history_on room n z (r ∷ h)) (sym on) in
      all_again room n new (r ∷ h) f (moved r.before r.move)
      (state ∙ state_first n x ∙ ap (state_after n) (sym on))
      (record { there = omega (arith, plain.there); plain = All-tail IsUnmarked (again_of r) (take n (map again_of f)) plain.plain })
      (subst (λ (y : State). IsAhead (moved y r.move) f) (sym ahead.0) ahead.2)
      (omega (arith, one, two, within)) size (subst (StandsFor holds new.keeper new.state) whole stands) ring

  pub course_all : (room : K → ℕ) (n : ℕ) (old new : CourseValue K) (h f : List Record) (y : State) → MakesAllAgain holds n h f y new → ring_room new.redo ≡ ring_room old.redo → room new.keeper ≡ room old.keeper → ring_room old.redo ≡ room old.keeper → IsCourse holds room new
  course_all room zero old new h f y b same roomy size = record { track = record { history = h; ahead = f }; follows = b.1; size = same ∙ size ∙ sym roomy }
  course_all room (suc n) old new h [] y b same roomy size = absurd b
  course_all room (suc n) old new h (r ∷ f) y b same roomy size = course_all room n old new (r ∷ h) f (moved r.before r.move) b same roomy size
