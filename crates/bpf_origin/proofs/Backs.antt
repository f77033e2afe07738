-- Going back over a history, move by move, and making moves again.
use Rattle.std.specs.Prelude.{IfSome}
use Rattle.std.proofs.Common.{◌≡◌, ◌<◌, ℕ, zero, suc, ◌+◌, Bool, List, [], ◌∷◌, Option, true, false, length, refl, sym, ap, subst, ◌∙◌, arith, zero-add, suc-add}
use Rattle.bpf_entries.specs.Keeping.{Kept}
use Rattle.bpf_entries.specs.Status.{has_ended}
use Rattle.bpf_journal.specs.Counts.{one_more}
use Rattle.bpf_journal.specs.Courses.{GoesBackOne, MakesAgain}
use Rattle.bpf_journal.specs.Histories.{IsRun, Record, StandsFor, is_step}
use Rattle.bpf_journal.specs.Timelines.{Moment, GoesBack as TimelineGoesBack}
use Rattle.bpf_journal.specs.Tracks.{CourseValue, Follows, Track}
use Rattle.bpf_journal.specs.declared.taken.Taken.{Taken}
use Rattle.bpf_machine.specs.declared.moves.Move.{Move}
use Rattle.bpf_machine.specs.declared.moves.Move.TheVariants as move
use Rattle.bpf_machine.specs.Moves.{IsMovable}
use Rattle.bpf_steps.specs.State.{State}
use Rattle.bpf_origin.specs.Pasts.{CourseStands, GoesBack, IsSameKeeper, Stand, gone_back, refusals_left, stand, state_of}

-- From a stand on.
abbrev onwards : ℕ → Stand → Stand
onwards k s = gone_back k s.track.history s.track.ahead s.state

none_back : (i : ℕ) (f : List Record) (y : State) → gone_back i [] f y ≡ stand [] f y
none_back zero f y = refl
none_back (suc i) f y = refl

back_add : (k i : ℕ) (h f : List Record) (y : State) → gone_back (k + i) h f y ≡ onwards i (gone_back k h f y)
back_add zero i h f y = ap (λ (m : ℕ). gone_back m h f y) (zero-add i)
back_add (suc k) i [] f y = none_back (suc k + i) f y ∙ sym (none_back i f y)
back_add (suc k) i (r ∷ h) f y = ap (λ (m : ℕ). gone_back m (r ∷ h) f y) (suc-add k i) ∙ back_add k i h (r ∷ f) r.before

-- Some moves more, and one.
pub back_on : (k i : ℕ) (h f : List Record) (y : State) (older ahead : List Record) (z : State)
    → gone_back k h f y ≡ stand older ahead z → gone_back (k + i) h f y ≡ gone_back i older ahead z
back_on k i h f y older ahead z e = back_add k i h f y ∙ ap (onwards i) e

pub back_more : (k : ℕ) (h f : List Record) (y : State) (r : Record) (older ahead : List Record) (z : State)
    → gone_back k h f y ≡ stand (r ∷ older) ahead z → gone_back (k + 1) h f y ≡ stand older (r ∷ ahead) r.before
back_more k h f y r older ahead z e = back_on k 1 h f y (r ∷ older) ahead z e

-- The moves that are left lead to the state.
run_back : (k : ℕ) (h f : List Record) (y : State) → IsRun h y → IsRun (gone_back k h f y).track.history (gone_back k h f y).state
run_back zero h f y run = run
run_back (suc k) [] f y run = run
run_back (suc k) (r ∷ h) f y run = run_back k h (r ∷ f) r.before run.1

length_back : (k : ℕ) (h f : List Record) (y : State) → k < length h → 0 < length (gone_back k h f y).track.history
length_back zero h f y low = low
length_back (suc k) [] f y low = absurd (omega (arith, low))
length_back (suc k) (r ∷ h) f y low = length_back k h (r ∷ f) r.before (omega (arith, low))

module _ {K : Type 0} (holds : K → List Kept → Type 0) where
  -- The move that was taken back last is made again.
  again_there : (h f : List Record) (y : State) (old new : CourseValue K) (made : Bool) → IsRun h y → 0 < length h
      → CourseStands holds old (gone_back 1 h f y) → ((t : Track) → Follows holds old t → MakesAgain holds made t.history t.ahead old new)
      → CourseStands holds new (stand h f y)
  again_there [] f y old new made run low stands makes = absurd (omega (arith, low))
  again_there (r ∷ h) f y old new made run low stands makes =
      let m = makes (record { history = h; ahead = r ∷ f }) stands.on in
      record { at = m.1 ∙ sym run.0.after; on = m.2 }

  pub again : (k : ℕ) (h f : List Record) (y : State) (old new : CourseValue K) (made : Bool) → IsRun h y → k < length h
      → CourseStands holds old (gone_back (k + 1) h f y) → ((t : Track) → Follows holds old t → MakesAgain holds made t.history t.ahead old new)
      → CourseStands holds new (gone_back k h f y)
  again k h f y old new made run low stands makes =
      let s = gone_back k h f y in
      again_there s.track.history s.track.ahead s.state old new made (run_back k h f y run) (length_back k h f y low)
      (subst (λ (t : Stand). CourseStands holds old t) (back_add k 1 h f y) stands) makes

-- A machine runs before a step.
runs_before : (x : State) (m : Move) → is_step m ≡ true → IsMovable x m → has_ended x.status ≡ false
runs_before x move.Step is can = can
runs_before x (move.Edit e) is can = absurd cc

module _ {K : Type 0} (holds : K → List Kept → Type 0) where
  -- What going back by a move leaves of a timeline and of a course.
  pub timeline_back : (taken : Option Taken) (h f : List Record) (old new : Moment K) → TimelineGoesBack holds taken h old new
      → GoesBack (λ (t : Moment K). t.state) (λ (t : Moment K) (track : Track). StandsFor holds t.keeper t.state track.history) taken h f old new
  timeline_back taken [] f old new b = (b.0, record { at = b.1; on = b.2 })
  timeline_back taken (r ∷ h) f old new b = (b.0, record { at = b.1; on = b.2 })

  pub course_back : (taken : Option Taken) (h f : List Record) (old new : CourseValue K) → GoesBackOne holds taken h f old new
      → GoesBack state_of (Follows holds) taken h f old new
  course_back taken [] f old new b = (b.0, record { at = b.1; on = b.2 })
  course_back taken (r ∷ h) f old new b = (b.0, record { at = b.1; on = b.2 })

  pub course_runs : (taken : Option Taken) (h f : List Record) (old new : CourseValue K) → IsRun h old.state → GoesBackOne holds taken h f old new
      → IfSome taken (λ (t : Taken). t.is_step ≡ true → has_ended new.state.status ≡ false)
  course_runs taken [] f old new run b =
      subst (λ (o : Option Taken). IfSome o (λ (t : Taken). t.is_step ≡ true → has_ended new.state.status ≡ false)) (sym b.0) tt
  course_runs taken (r ∷ h) f old new run b =
      subst (λ (o : Option Taken). IfSome o (λ (t : Taken). t.is_step ≡ true → has_ended new.state.status ≡ false)) (sym b.0)
      (λ is. subst (λ (x : State). has_ended x.status ≡ false) (sym b.1) (runs_before r.before r.move is run.0.movable))

-- A refusal is counted.
pub never_refused : (a b : ℕ) → a ≡ one_more b → a ≡ 0 → b ≡ 0 → ⊥
never_refused a b e za zb =
    let f : 0 ≡ 1 = sym za ∙ e ∙ ap one_more zb in
    omega (arith, f)

-- Where a move is left, a refusal is counted.
pub one_refused : (left n : ℕ) → 0 < left → refusals_left left n ≡ one_more n
one_refused zero n some = absurd (omega (arith, some))
one_refused (suc left) n some = refl

-- The keeper stays the same, one turn after another.
pub keeps_on : {P : Type 0} (size refusals : P → ℕ) (a b c : P) → IsSameKeeper size refusals a b → IsSameKeeper size refusals b c → IsSameKeeper size refusals a c
keeps_on size refusals a b c one other = record { room = other.room ∙ one.room; refused = other.refused ∙ one.refused }
