-- What new moves, going back and making again make of the tracks that a course stands for.
use Rattle.std.proofs.Common.{◌≡◌, ◌≤◌, ◌+◌, ℕ, Bool, true, false, List, [], ◌∷◌, Option, Some, None, map, refl, sym, ap, subst, ◌∙◌, arith}
use Rattle.std.specs.Prelude.{sum_by, if◌then◌else◌}
use Rattle.std.specs.Option.{option_map}
use Rattle.std.proofs.lemmas.List.Sums.{sum_by-cons}
use Rattle.bpf_entries.specs.declared.entry.Entry.{Entry}
use Rattle.bpf_entries.specs.Keeping.{Kept, kept_weight, keep, fit}
use Rattle.bpf_entries.specs.Weights.{weight}
use Rattle.bpf_entries.proofs.Keeping.{fit_all}
use Rattle.bpf_machine.specs.declared.moves.Move.{Move}
use Rattle.bpf_machine.specs.declared.moves.Move.TheVariants as move
use Rattle.bpf_machine.specs.Moves.{Leads, HasCome, moved, overwritten}
use Rattle.bpf_steps.specs.State.{State}
use Rattle.bpf_journal.specs.declared.taken.Taken.{Taken}
use Rattle.bpf_journal.specs.Again.{again_entry, again_of, move_again, seen_again}
use Rattle.bpf_journal.specs.Courses.{MakesNew, StaysThere, GoesBackOne, MakesAgain}
use Rattle.bpf_journal.specs.Handing.{Hands}
use Rattle.bpf_journal.specs.Histories.{Record, HasHistory, IsRun, StandsFor, kept_of, newest, older, record_weight}
use Rattle.bpf_journal.specs.TakingBack.{TakesBack, taken_by}
use Rattle.bpf_journal.specs.Timelines.{Makes, Stays, Moment, record_of}
use Rattle.bpf_journal.specs.Tracks.{Track, CourseValue, Follows, IsAhead, IsCourse, RingHolds, ring_room, with_new, track_of}
use Rattle.bpf_entries.specs.Fields.{FitsFields}
use Rattle.bpf_entries.specs.Past.{is_of_step}
use Rattle.bpf_machine.specs.Fields.{EntriesFit}
use Rattle.bpf_journal.specs.declared.fault.MoveFault.{MoveFault}
use Rattle.bpf_journal.specs.Keepers.{IsWithin}
use Rattle.bpf_journal.specs.Reverting.{RefusesMove}
use Rattle.bpf_journal.proofs.MadeAgain.{again_of_edit, again_step, again_weighs, same_again, seen_is, seen_step}
use Rattle.bpf_journal.proofs.Fitting.{fit_within}
use Rattle.bpf_journal.proofs.MoveLaws.{nowhere}
use Rattle.bpf_journal.proofs.Histories.{weights_kept}

-- what is kept of moves that were taken back weighs as much as their entries
pub weights_again : (x : State) (f : List Record) → IsAhead x f → sum_by kept_weight (map again_of f) ≡ sum_by record_weight f
weights_again x [] ahead = refl
weights_again x (r ∷ f) ahead =
    let w : kept_weight (again_of r) ≡ record_weight r = again_weighs r.before (moved x r.move) r.move (subst (λ z. Leads z r.move (moved x r.move)) (sym ahead.0) ahead.1) in
    let i = weights_again (moved x r.move) f ahead.2 in
    let a = sum_by-cons kept_weight (again_of r) (map again_of f) in
    let b = sum_by-cons record_weight r f in
    omega (arith, w, i, a, b)

-- a state and its keeper
abbrev pub moment_of : {K : Type 0} → CourseValue K → Moment K
moment_of s = record { state = s.state; keeper = s.keeper }

module _ {K : Type 0} (holds : K → List Kept → Type 0) where
  -- a new move
  pub follows_new : (room : ℕ) (old new : CourseValue K) (m : Move) (mark : Bool) → Makes holds room m mark (moment_of old) (moment_of new) → ring_room old.redo ≡ room → ring_room new.redo ≡ ring_room old.redo → RingHolds new.redo [] → (t : Track) → Follows holds old t → Follows holds new (with_new room (record_of old.state m mark) t)
  follows_new room old new m mark made size same empty t f =
      let fits = fit_within record_weight room (record_of old.state m mark ∷ t.history) in
      let zero : sum_by record_weight [] ≡ 0 = refl in
      record {
        history = made.kept t.history f.history;
        held = empty;
        ahead = tt;
        within = omega (arith, fits, size, same, zero);
      }

  pub makes_new : (room : ℕ) (old new : CourseValue K) (m : Move) (mark : Bool) → Makes holds room m mark (moment_of old) (moment_of new) → ring_room old.redo ≡ room → ring_room new.redo ≡ ring_room old.redo → RingHolds new.redo [] → MakesNew holds room m mark old new
  makes_new room old new m mark made size same empty = record { leads = made.leads; kept = follows_new room old new m mark made size same empty }

  pub course_new : (room : K → ℕ) (old new : CourseValue K) (m : Move) (mark : Bool) → Makes holds (room old.keeper) m mark (moment_of old) (moment_of new) → ring_room new.redo ≡ ring_room old.redo → RingHolds new.redo [] → room new.keeper ≡ room old.keeper → IsCourse holds room old → IsCourse holds room new
  course_new room old new m mark made same empty roomy i = record {
    track = with_new (room old.keeper) (record_of old.state m mark) i.track;
    follows = follows_new (room old.keeper) old new m mark made i.size same empty i.track i.follows;
    size = same ∙ i.size ∙ sym roomy;
  }

  -- where nothing changes
  pub stays_there : (old new : CourseValue K) → Stays holds (moment_of old) (moment_of new) → new.redo ≡ old.redo → StaysThere holds old new
  stays_there old new s same = record {
    state = s.state;
    stands = λ t f. record {
      history = s.stands t.history f.history;
      held = subst (λ ring. RingHolds ring (map again_of t.ahead)) (sym same) f.held;
      ahead = subst (λ x. IsAhead x t.ahead) (sym s.state) f.ahead;
      within = subst (λ ring. sum_by record_weight t.history + sum_by record_weight t.ahead ≤ ring_room ring) (sym same) f.within;
    };
  }

  pub course_stays : (room : K → ℕ) (old new : CourseValue K) → StaysThere holds old new → ring_room new.redo ≡ ring_room old.redo → room new.keeper ≡ room old.keeper → IsCourse holds room old → IsCourse holds room new
  course_stays room old new s same roomy i = record { track = i.track; follows = s.stands i.track i.follows; size = same ∙ i.size ∙ sym roomy }

  -- the newest record goes in front of those that were taken back, where the ring got what is kept of it
  goes_back_one : (taken : Option Taken) (old new : CourseValue K) (r : Record) (h f : List Record) → Follows holds old (record { history = r ∷ h; ahead = f }) → TakesBack holds taken (r ∷ h) old.state new.keeper new.state
      → RingHolds new.redo (keep kept_weight (ring_room old.redo) (map again_of f) (again_of r)) → ring_room new.redo ≡ ring_room old.redo → GoesBackOne holds taken (r ∷ h) f old new
  goes_back_one taken old new r h f s b pushed same =
      let leads : Leads r.before r.move old.state = s.history.1.0 in
      let old_ahead = weights_again old.state f s.ahead in
      let w : kept_weight (again_of r) ≡ record_weight r = again_weighs r.before old.state r.move leads in
      let one = sum_by-cons record_weight r h in
      let two = sum_by-cons record_weight r f in
      let three = sum_by-cons kept_weight (again_of r) (map again_of f) in
      let within = s.within in
      let all : sum_by kept_weight (again_of r ∷ map again_of f) ≤ ring_room old.redo = omega (arith, w, old_ahead, one, three, within) in
      let held : RingHolds new.redo (again_of r ∷ map again_of f) =
      subst (RingHolds new.redo) (fit_all kept_weight (ring_room old.redo) (again_of r ∷ map again_of f) all) pushed in
      let onward : Leads r.before r.move (moved r.before r.move) = subst (Leads r.before r.move) leads.after leads in
      let more : IsAhead (moved r.before r.move) f = subst (λ x. IsAhead x f) leads.after s.ahead in
      let ahead : IsAhead r.before (r ∷ f) = (refl, onward, more) in (
        b.0,
        b.1,
        record {
          history = b.2;
          held = held;
          ahead = subst (λ x. IsAhead x (r ∷ f)) (sym b.1) ahead;
          within = omega (arith, one, two, within, same);
        },
      )

  -- by its entry
  pub goes_back : (taken : Option Taken) (old new : CourseValue K) (k : Kept) → ((h : List Record) → StandsFor holds old.keeper old.state h → Some k ≡ newest (map kept_of h)) → ((h : List Record) → StandsFor holds old.keeper old.state h → TakesBack holds taken h old.state new.keeper new.state) → ((es : List Kept) → RingHolds old.redo es → RingHolds new.redo (keep kept_weight (ring_room old.redo) es (seen_again old.state k.0, k.1))) → ring_room new.redo ≡ ring_room old.redo
      → (h f : List Record) → Follows holds old (record { history = h; ahead = f }) → GoesBackOne holds taken h f old new
  goes_back taken old new k last back push same [] f s = let e = last [] s.history in absurd cc
  goes_back taken old new k last back push same (r ∷ h) f s =
      let is : k ≡ kept_of r = (let e = last (r ∷ h) s.history in cc) in
      let again : (seen_again old.state k.0, k.1) ≡ again_of r = ap (λ (v : Kept). (seen_again old.state v.0, v.1)) is ∙ ap (λ (e : Entry). (e, r.mark)) (seen_is r.before old.state r.move s.history.1.0) in
      goes_back_one taken old new r h f s (back (r ∷ h) s.history)
      (subst (λ (v : Kept). RingHolds new.redo (keep kept_weight (ring_room old.redo) (map again_of f) v)) again (push (map again_of f) s.held)) same

  -- the entry of a step is handed over
  pub steps_back : (taken : Option Taken) (old new : CourseValue K) (handed : Bool) → handed ≡ true → ((es ls : List Kept) → holds old.keeper es → RingHolds old.redo ls → Hands handed es ls (ring_room old.redo) (RingHolds new.redo)) → ((h : List Record) → StandsFor holds old.keeper old.state h → TakesBack holds taken h old.state new.keeper new.state) → ring_room new.redo ≡ ring_room old.redo
      → (h f : List Record) → Follows holds old (record { history = h; ahead = f }) → GoesBackOne holds taken h f old new
  steps_back taken old new handed is hands back same [] f s = let e = (hands [] (map again_of f) s.history.0 s.held).0 in absurd cc
  steps_back taken old new handed is hands back same (r ∷ h) f s =
      let e = hands (map kept_of (r ∷ h)) (map again_of f) s.history.0 s.held in
      let step : is_of_step (overwritten r.before r.move) ≡ true = sym e.0 ∙ is in
      let again : kept_of r ≡ again_of r = ap (λ (e : Entry). (e, r.mark)) (sym (seen_step old.state (overwritten r.before r.move) step) ∙ seen_is r.before old.state r.move s.history.1.0) in
      let pushed : RingHolds new.redo (keep kept_weight (ring_room old.redo) (map again_of f) (kept_of r)) =
      subst (λ b. RingHolds new.redo (if b then keep kept_weight (ring_room old.redo) (map again_of f) (kept_of r) else map again_of f)) step e.1 in
      goes_back_one taken old new r h f s (back (r ∷ h) s.history) (subst (λ (v : Kept). RingHolds new.redo (keep kept_weight (ring_room old.redo) (map again_of f) v)) again pushed) same

  -- without a record nothing changes
  pub stays_back : (old : CourseValue K) → ((h : List Record) → StandsFor holds old.keeper old.state h → None ≡ newest (map kept_of h)) → (h f : List Record) → Follows holds old (record { history = h; ahead = f }) → GoesBackOne holds None h f old old
  stays_back old last [] f s = (refl, refl, s)
  stays_back old last (r ∷ h) f s = let e = last (r ∷ h) s.history in absurd cc

  pub course_left : (room : K → ℕ) (taken : Option Taken) (old new : CourseValue K) (h f : List Record) → GoesBackOne holds taken h f old new → ring_room new.redo ≡ ring_room old.redo → room new.keeper ≡ room old.keeper → ring_room old.redo ≡ room old.keeper → IsCourse holds room new
  course_left room taken old new [] f b same roomy size = record { track = record { history = []; ahead = f }; follows = b.2; size = same ∙ size ∙ sym roomy }
  course_left room taken old new (r ∷ h) f b same roomy size = record { track = record { history = h; ahead = r ∷ f }; follows = b.2; size = same ∙ size ∙ sym roomy }

  -- the newest is of the move that led here, for what is handed over
  pub newest_leads : (old : CourseValue K) (k : Kept) → ((h : List Record) → StandsFor holds old.keeper old.state h → Some k ≡ newest (map kept_of h)) → (h : List Record) → StandsFor holds old.keeper old.state h → HasCome old.state k.0
  newest_leads old k last [] s = let e = last [] s in absurd cc
  newest_leads old k last (r ∷ h) s =
      let is : kept_of r ≡ k = (let e = last (r ∷ h) s in cc) in
      record { x = r.before; m = r.move; leads = s.1.0; held = ap (λ (v : Kept). v.0) is }

  -- the next one is made again, by the move that makes it
  makes_next : (room : ℕ) (old new : CourseValue K) (r : Record) (h f : List Record) → Follows holds old (record { history = h; ahead = r ∷ f }) → Makes holds room (move_again (again_entry r.before r.move)) r.mark (moment_of old) (moment_of new) → RingHolds new.redo (map again_of f) → ring_room old.redo ≡ room → ring_room new.redo ≡ ring_room old.redo → MakesAgain holds true h (r ∷ f) old new
  makes_next room old new r h f s made left size same =
      let from : r.before ≡ old.state = s.ahead.0 in
      let leads : Leads r.before r.move (moved r.before r.move) =
      subst (λ x. Leads x r.move (moved x r.move)) (sym from) s.ahead.1 in
      let again = same_again r.before (moved r.before r.move) r.move leads in
      let mine : Makes holds room (move_again (again_entry r.before r.move)) r.mark (record { state = r.before; keeper = old.keeper }) (moment_of new) =
      subst (λ x. Makes holds room (move_again (again_entry r.before r.move)) r.mark (record { state = x; keeper = old.keeper }) (moment_of new)) (sym from) made in
      let q : Record = record_of r.before (move_again (again_entry r.before r.move)) r.mark in
      let after : new.state ≡ moved r.before r.move = mine.leads.after ∙ again.after in
      let run : IsRun h r.before = subst (IsRun h) (sym from) s.history.1 in
      let w : record_weight q ≡ record_weight r = ap weight again.held in
      let one = sum_by-cons record_weight q h in
      let two = sum_by-cons record_weight r f in
      let three = sum_by-cons record_weight r h in
      let within = s.within in
      let all : sum_by record_weight (q ∷ h) ≤ room = omega (arith, w, one, two, within, size) in
      let kept : StandsFor holds new.keeper new.state (q ∷ h) =
      subst (StandsFor holds new.keeper new.state) (fit_all record_weight room (q ∷ h) all) (mine.kept h (s.history.0, run)) in
      let same_kept : kept_of q ≡ kept_of r = ap (λ (e : Entry). (e, r.mark)) again.held in (
        refl,
        after,
        record {
          history = (subst (λ (v : Kept). holds new.keeper (v ∷ map kept_of h)) same_kept kept.0, (subst (Leads r.before r.move) (sym after) leads, run));
          held = left;
          ahead = subst (λ x. IsAhead x f) (sym after) (subst (λ x. IsAhead (moved x r.move) f) (sym from) s.ahead.2);
          within = omega (arith, two, three, within, same);
        },
      )

  -- of what is kept of it
  pub makes_again : (room : ℕ) (old new : CourseValue K) (k : Kept) → ((es : List Kept) → RingHolds old.redo es → (Some k ≡ newest es) × RingHolds new.redo (older es)) → Makes holds room (move_again k.0) k.1 (moment_of old) (moment_of new) → ring_room old.redo ≡ room → ring_room new.redo ≡ ring_room old.redo
      → (h f : List Record) → Follows holds old (record { history = h; ahead = f }) → MakesAgain holds true h f old new
  makes_again room old new k pop made size same h [] s = let e = (pop [] s.held).0 in absurd cc
  makes_again room old new k pop made size same h (r ∷ f) s =
      let p = pop (map again_of (r ∷ f)) s.held in
      let is : k ≡ again_of r = (let e = p.0 in cc) in
      makes_next room old new r h f s (subst (λ (v : Kept). Makes holds room (move_again v.0) v.1 (moment_of old) (moment_of new)) is made) p.1 size same

  -- a step
  step_is : (next : Taken) (k : Kept) → next.is_step ≡ true → Some next ≡ Some (taken_by k) → (move_again k.0 ≡ move.Step) × (next.mark ≡ k.1)
  step_is next k step e =
      let is : next ≡ taken_by k = cc in
      (again_step k.0 (sym (ap (λ (t : Taken). t.is_step) is) ∙ step), ap (λ (t : Taken). t.mark) is)

  pub makes_step : (room : ℕ) (old new : CourseValue K) (next : Taken) → next.is_step ≡ true → ((es : List Kept) → RingHolds old.redo es → (Some next ≡ option_map taken_by (newest es)) × RingHolds new.redo (older es)) → Makes holds room move.Step next.mark (moment_of old) (moment_of new) → ring_room old.redo ≡ room → ring_room new.redo ≡ ring_room old.redo
      → (h f : List Record) → Follows holds old (record { history = h; ahead = f }) → MakesAgain holds true h f old new
  makes_step room old new next step pop made size same h [] s = let e = (pop [] s.held).0 in absurd cc
  makes_step room old new next step pop made size same h (r ∷ f) s =
      let p = pop (map again_of (r ∷ f)) s.held in
      let is = step_is next (again_of r) step p.0 in
      makes_next room old new r h f s
      (subst (λ (m : Move). Makes holds room m r.mark (moment_of old) (moment_of new)) (sym is.0) (subst (λ mark. Makes holds room move.Step mark (moment_of old) (moment_of new)) is.1 made)) p.1 size same

  pub course_again : (room : K → ℕ) (old new : CourseValue K) (h f : List Record) → MakesAgain holds true h f old new → ring_room new.redo ≡ ring_room old.redo → room new.keeper ≡ room old.keeper → ring_room old.redo ≡ room old.keeper → IsCourse holds room new
  course_again room old new h [] b same roomy size = absurd cc
  course_again room old new h (r ∷ f) b same roomy size = record { track = record { history = r ∷ h; ahead = f }; follows = b.2; size = same ∙ size ∙ sym roomy }

  -- nothing is made again where nothing was taken back
  pub none_again : (old : CourseValue K) → ((ks : List Kept) (k : Kept) → RingHolds old.redo (k ∷ ks) → ⊥) → (h f : List Record) → Follows holds old (record { history = h; ahead = f }) → MakesAgain holds false h f old old
  none_again old empty h [] s = (refl, refl, s)
  none_again old empty h (r ∷ f) s = absurd (empty (map again_of f) (again_of r) s.held)

  -- what is handed over fits its fields
  pub handed_fits : (old : CourseValue K) (k : Kept) → ((h : List Record) → StandsFor holds old.keeper old.state h → Some k ≡ newest (map kept_of h)) → EntriesFit → (again : Entry) → again ≡ seen_again old.state k.0 → (is_of_step again ≡ false → FitsFields again) → (h : List Record) → StandsFor holds old.keeper old.state h → FitsFields again
  handed_fits old k last fit again is edits [] s = let e = last [] s in absurd cc
  handed_fits old k last fit again is edits (r ∷ h) s =
      let same : k ≡ kept_of r = (let e = last (r ∷ h) s in cc) in
      by_move r.move refl (is ∙ ap (λ (v : Kept). seen_again old.state v.0) same ∙ seen_is r.before old.state r.move s.1.0)
    where
      by_move : (m : Move) → r.move ≡ m → again ≡ again_entry r.before r.move → FitsFields again
      by_move move.Step of e =
          let leads : Leads r.before move.Step old.state = subst (λ (m : Move). Leads r.before m old.state) of s.1.0 in
          subst FitsFields (sym (e ∙ ap (again_entry r.before) of)) (fit r.before old.state move.Step leads tt)
      by_move (move.Edit f) of e = edits (ap is_of_step (e ∙ ap (again_entry r.before) of) ∙ again_of_edit f)

  -- a course that is opened
  pub follows_open : (s : CourseValue K) → RingHolds s.redo [] → (room : K → ℕ) → ((es : List Kept) → holds s.keeper es → IsWithin (room s.keeper) es) → ring_room s.redo ≡ room s.keeper → (h : List Record) → StandsFor holds s.keeper s.state h → Follows holds s (track_of h)
  follows_open s empty room within size h stands =
      let w = (within (map kept_of h) stands.0).weighs in
      let same = weights_kept h in
      let zero : sum_by record_weight [] ≡ 0 = refl in
      record { history = stands; held = empty; ahead = tt; within = omega (arith, w, same, zero, size) }

  pub course_open : (s : CourseValue K) → RingHolds s.redo [] → (room : K → ℕ) → ((es : List Kept) → holds s.keeper es → IsWithin (room s.keeper) es) → ring_room s.redo ≡ room s.keeper → HasHistory holds s.keeper s.state → IsCourse holds room s
  course_open s empty room within size i = record { track = track_of i.history; follows = follows_open s empty room within size i.history i.stands; size = size }

  -- what is made again can be made
  next_moves : (old : CourseValue K) (r : Record) (fault : MoveFault) → RefusesMove old.state (move_again (again_entry r.before r.move)) fault → (h f : List Record) → Follows holds old (record { history = h; ahead = r ∷ f }) → ⊥
  next_moves old r fault refuses h f s =
      let leads : Leads r.before r.move (moved r.before r.move) = subst (λ x. Leads x r.move (moved x r.move)) (sym s.ahead.0) s.ahead.1 in
      let again = same_again r.before (moved r.before r.move) r.move leads in
      let there : RefusesMove r.before (move_again (again_entry r.before r.move)) fault =
      subst (λ x. RefusesMove x (move_again (again_entry r.before r.move)) fault) (sym s.ahead.0) refuses in
      nowhere r.before (moved r.before (move_again (again_entry r.before r.move))) (move_again (again_entry r.before r.move)) fault there
      (record { before = leads.before; movable = again.movable; after = refl })

  pub none_refused : (old : CourseValue K) (k : Kept) (fault : MoveFault) → ((es : List Kept) → RingHolds old.redo es → Some k ≡ newest es) → RefusesMove old.state (move_again k.0) fault → (h f : List Record) → Follows holds old (record { history = h; ahead = f }) → ⊥
  none_refused old k fault last refuses h [] s = let e = last [] s.held in absurd cc
  none_refused old k fault last refuses h (r ∷ f) s =
      let is : k ≡ again_of r = (let e = last (map again_of (r ∷ f)) s.held in cc) in
      next_moves old r fault (subst (λ (v : Kept). RefusesMove old.state (move_again v.0) fault) is refuses) h f s

  pub no_step_refused : (old : CourseValue K) (next : Taken) (fault : MoveFault) → next.is_step ≡ true → ((es : List Kept) → RingHolds old.redo es → Some next ≡ option_map taken_by (newest es)) → RefusesMove old.state move.Step fault → (h f : List Record) → Follows holds old (record { history = h; ahead = f }) → ⊥
  no_step_refused old next fault step last refuses h [] s = let e = last [] s.held in absurd cc
  no_step_refused old next fault step last refuses h (r ∷ f) s =
      let is = step_is next (again_of r) step (last (map again_of (r ∷ f)) s.held) in
      next_moves old r fault (subst (λ (m : Move). RefusesMove old.state m fault) (sym is.0) refuses) h f s
