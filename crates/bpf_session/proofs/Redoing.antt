-- The loop of `redo`: after k turns the session is at the state after the k-th move that was made again.
use Rattle.std.specs.Prelude.{if◌then◌else◌, nat_lt, nat_le, min, Result, IfOk}
use Rattle.std.proofs.Common.{◌≡◌, ◌≢◌, ◌+◌, ◌<◌, ◌≤◌, ◌==◌, ℕ, zero, suc, Bool, true, false, List, [], ◌∷◌, ◌++◌, Some, None, Ok, Err, length, take, drop, reverse, refl, sym, ap, subst, ◌∙◌, arith, add-one}
use Rattle.std.proofs.lemmas.Bool.Decides.{nat_tests}
use Rattle.std.proofs.lemmas.List.{reverse-append}
use Rattle.bpf_machine.specs.Moves.{moved}
use Rattle.bpf_steps.specs.State.{State}
use Rattle.bpf_entries.specs.Keeping.{Kept}
use Rattle.bpf_journal.specs.Counts.{one_more}
use Rattle.bpf_journal.specs.Courses.{MakesAgain, MakesAllAgain, StaysThere}
use Rattle.bpf_journal.specs.Histories.{Record}
use Rattle.bpf_journal.specs.Tracks.{CourseValue, Follows, Track}
use Rattle.bpf_session.specs.Outcomes.{Outcome, refused}
use Rattle.bpf_session.specs.Points.{Point}
use Rattle.bpf_session.specs.Redo.{state_ahead, on_by, redone, cut_again, redo, again}
use Rattle.bpf_session.specs.Replies.{IsThere}
use Rattle.bpf_session.specs.Sessions.{SessionValue, HasPast, StandsAt, Obeys, gap_of, point_of, track_at}
use Rattle.bpf_session.specs.declared.reply.Reply.{Reply}
use Rattle.bpf_session.specs.declared.reply.Reply.TheVariants as replies
use Rattle.bpfdb_script.specs.declared.refusal.Refusal.{Refusal}
use Rattle.bpfdb_script.specs.declared.refusal.Refusal.TheVariants.{OutOfMemory}
use Rattle.bpfdb_script.specs.declared.why.Why.{Why}
use Rattle.bpfdb_script.specs.declared.why.Why.TheVariants as whys
use Rattle.bpf_session.proofs.Answering.{Comes, comes_as, same-bounds}
use Rattle.bpf_session.proofs.Forwards.{OnlyMoment}

-- a record of what was taken back
pub record Next (f : List Record) (k : ℕ) (x : State) : Type 0 where
  pub found : Record
  pub front : drop k f ≡ found ∷ drop (suc k) f
  pub onto : (h : List Record) → reverse (take (suc k) f) ++ h ≡ found ∷ (reverse (take k f) ++ h)
  pub after : state_ahead (suc k) f x ≡ moved found.before found.move

pub next_at : (f : List Record) (k : ℕ) (x : State) → k < length f → Next f k x
next_at [] k x lt = absurd (omega arith)
next_at (r ∷ f) zero x lt = record { found = r; front = refl; onto = λ h. refl; after = refl }
next_at (r ∷ f) (suc k) x lt =
    let n = next_at f k (moved r.before r.move) (omega arith) in
    record {
      found = n.found;
      front = n.front;
      onto = λ h.
          ap (λ (xs : List Record). xs ++ h) (turned r (take (suc k) f)) ∙ assoc (reverse (take (suc k) f)) (r ∷ []) h
          ∙ n.onto (r ∷ h)
          ∙ ap (λ (xs : List Record). n.found ∷ xs) (sym (ap (λ (xs : List Record). xs ++ h) (turned r (take k f)) ∙ assoc (reverse (take k f)) (r ∷ []) h));
      after = n.after;
    }
  where
    turned : (r : Record) (xs : List Record) → reverse (r ∷ xs) ≡ reverse xs ++ r ∷ []
    turned r xs = reverse-append (r ∷ []) xs

    assoc : (a b c : List Record) → (a ++ b) ++ c ≡ a ++ (b ++ c)
    assoc [] b c = refl
    assoc (r ∷ a) b c = ap (λ (xs : List Record). r ∷ xs) (assoc a b c)

-- records that are made again at once, behind k others
module _ {K : Type 0} (holds : K → List Kept → Type 0) (new : CourseValue K) where
  pub all_on : (n k : ℕ) (h : Track) (x y : State) → k + n ≤ length h.ahead → y ≡ state_ahead k h.ahead x → MakesAllAgain holds n (reverse (take k h.ahead) ++ h.history) (drop k h.ahead) y new → (new.state ≡ state_ahead (k + n) h.ahead x) × Follows holds new (record { history = reverse (take (k + n) h.ahead) ++ h.history; ahead = drop (k + n) h.ahead })
  all_on zero k h x y le at b =
      subst (λ (j : ℕ). (new.state ≡ state_ahead j h.ahead x) × Follows holds new (record { history = reverse (take j h.ahead) ++ h.history; ahead = drop j h.ahead })) (let e : k ≡ k + 0 = omega arith in e)
      (b.0 ∙ at, b.1)
  all_on (suc n) k h x y le at b =
      let next = next_at h.ahead k x (omega (arith, le)) in
      let front = subst (λ (f : List Record). MakesAllAgain holds (suc n) (reverse (take k h.ahead) ++ h.history) f y new) next.front b in
      let on = all_on n (suc k) h x (moved next.found.before next.found.move) (omega (arith, le)) (sym next.after)
      (subst (λ (g : List Record). MakesAllAgain holds n g (drop (suc k) h.ahead) (moved next.found.before next.found.move) new) (sym (next.onto h.history)) front) in
      subst (λ (j : ℕ). (new.state ≡ state_ahead j h.ahead x) × Follows holds new (record { history = reverse (take j h.ahead) ++ h.history; ahead = drop j h.ahead })) (let e : suc k + n ≡ k + suc n = omega arith in e) on

-- what holds after k turns
pub record Redoing {K : Type 0} (holds : K → List Kept → Type 0) (refusals room : K → ℕ) (old now : SessionValue K) (k : ℕ) : Type 0 where
  pub only : OnlyMoment old now
  pub same : refusals now.moment.keeper ≡ refusals old.moment.keeper
  pub room_same : room now.moment.keeper ≡ room old.moment.keeper
  pub stands : (h : Track) → HasPast holds old h → k ≤ length h.ahead → StandsAt holds now (on_by k (point_of old h))

-- the answer to a command that a refused move cut short
abbrev cut_of : Bool → ℕ → Point → Outcome
cut_of first k p = if first then refused OutOfMemory p else redone k whys.Memory p

cut_told : (first : Bool) (k : ℕ) → (first ≡ true → k ≡ 0) → gap_of (if first then Err OutOfMemory else Ok (replies.Redone k whys.Memory)) ≡ Some k
cut_told true k z = ap Some (sym (z refl))
cut_told false k z = refl

cut_answer : (first : Bool) (k : ℕ) (p : Point) → (if first then Err OutOfMemory else Ok (replies.Redone k whys.Memory)) ≡ (cut_of first k p).answer
cut_answer true k p = refl
cut_answer false k p = refl

cut_point : (first : Bool) (k : ℕ) (p : Point) (P : Point → Type 0) → (first ≡ true → k ≡ 0) → P (on_by k p) → P (cut_of first k p).point
cut_point true k p P z q = subst (λ (j : ℕ). P (on_by j p)) (z refl) q
cut_point false k p P z q = q

cut_there : (first : Bool) (k : ℕ) (x : State) → IfOk (if first then Err OutOfMemory else Ok (replies.Redone k whys.Memory)) (λ reply. IsThere reply x)
cut_there true k x = tt
cut_there false k x = tt

none_told : (k : ℕ) (why : Why) → why ≢ whys.Memory → gap_of (Ok (replies.Redone k why)) ≡ None
none_told k whys.End other = refl
none_told k whys.Break other = refl
none_told k whys.Watch other = refl
none_told k whys.Done other = refl
none_told k whys.Limit other = refl
none_told k whys.Memory other = absurd (other refl)
none_told k whys.Start other = refl
none_told k whys.All other = refl

module _ {K : Type 0} (holds : K → List Kept → Type 0) (refusals room : K → ℕ) (old now new : SessionValue K) (k : ℕ) where
  -- one more move is made again
  stands_more : Redoing holds refusals room old now k → OnlyMoment now new → (made : Bool) → ((g : Track) → HasPast holds now g → MakesAgain holds made g.history g.ahead now.moment new.moment) → (h : Track) → HasPast holds old h → k + 1 ≤ length h.ahead → StandsAt holds new (on_by (k + 1) (point_of old h))
  stands_more i only made more h past le =
      let n = next_at h.ahead k old.moment.state (omega arith) in
      let st = i.stands h past (omega arith) in
      let b = subst (λ (f : List Record). MakesAgain holds made (reverse (take k h.ahead) ++ h.history) f now.moment new.moment) n.front (more (track_at (on_by k (point_of old h))) st.1) in
      let state : new.moment.state ≡ state_ahead (suc k) h.ahead old.moment.state = b.1 ∙ sym n.after in
      let past' : HasPast holds new (track_at (on_by (suc k) (point_of old h))) =
      subst (λ (g : List Record). HasPast holds new (record { history = g; ahead = drop (suc k) h.ahead })) (sym (n.onto h.history)) b.2 in
      rw add-one (
        ap (λ (x : State). record { history = reverse (take (suc k) h.ahead) ++ h.history; ahead = drop (suc k) h.ahead; state = x; breaks = new.breaks; watches = new.watches }) state
            ∙ ap (λ (bs : List ℕ). record { history = reverse (take (suc k) h.ahead) ++ h.history; ahead = drop (suc k) h.ahead; state = state_ahead (suc k) h.ahead old.moment.state; breaks = bs; watches = new.watches }) (only.breaks ∙ i.only.breaks)
            ∙ ap (λ (ws : List ℕ). record { history = reverse (take (suc k) h.ahead) ++ h.history; ahead = drop (suc k) h.ahead; state = state_ahead (suc k) h.ahead old.moment.state; breaks = old.breaks; watches = ws }) (only.watches ∙ i.only.watches),
        past',
      )

  pub redoing_step : Redoing holds refusals room old now k → OnlyMoment now new → (made : Bool) → ((g : Track) → HasPast holds now g → MakesAgain holds made g.history g.ahead now.moment new.moment) → refusals new.moment.keeper ≡ refusals now.moment.keeper → room new.moment.keeper ≡ room now.moment.keeper → Redoing holds refusals room old new (k + 1)
  redoing_step i only made more same room_same = record {
    only = record { breaks = only.breaks ∙ i.only.breaks; watches = only.watches ∙ i.only.watches; limit = only.limit ∙ i.only.limit };
    same = same ∙ i.same;
    room_same = room_same ∙ i.room_same;
    stands = stands_more i only made more;
  }

  -- steps that are made again at once
  stands_all : (n : ℕ) → Redoing holds refusals room old now k → OnlyMoment now new → ((g : Track) → HasPast holds now g → MakesAllAgain holds n g.history g.ahead now.moment.state new.moment) → (h : Track) → HasPast holds old h → k + n ≤ length h.ahead → StandsAt holds new (on_by (k + n) (point_of old h))
  stands_all n i only all h past le =
      let st = i.stands h past (omega (arith, le)) in
      let p = on_by (k + n) (point_of old h) in
      let b = all_on holds new.moment n k h old.moment.state now.moment.state le (ap (λ (q : Point). q.state) st.0) (all (track_at (on_by k (point_of old h))) st.1) in (
        ap (λ (x : State). record { history = p.history; ahead = p.ahead; state = x; breaks = new.breaks; watches = new.watches }) b.0
            ∙ ap (λ (bs : List ℕ). record { history = p.history; ahead = p.ahead; state = p.state; breaks = bs; watches = new.watches }) (only.breaks ∙ i.only.breaks)
            ∙ ap (λ (ws : List ℕ). record { history = p.history; ahead = p.ahead; state = p.state; breaks = old.breaks; watches = ws }) (only.watches ∙ i.only.watches),
        b.1,
      )

  pub redoing_steps : (n : ℕ) → Redoing holds refusals room old now k → OnlyMoment now new → ((g : Track) → HasPast holds now g → MakesAllAgain holds n g.history g.ahead now.moment.state new.moment) → refusals new.moment.keeper ≡ refusals now.moment.keeper → room new.moment.keeper ≡ room now.moment.keeper → Redoing holds refusals room old new (k + n)
  redoing_steps n i only all same room_same = record {
    only = record { breaks = only.breaks ∙ i.only.breaks; watches = only.watches ∙ i.only.watches; limit = only.limit ∙ i.only.limit };
    same = same ∙ i.same;
    room_same = room_same ∙ i.room_same;
    stands = stands_all n i only all;
  }

  pub redoing_none : (n : ℕ) → n ≡ 0 → Redoing holds refusals room old now k → OnlyMoment now new → ((g : Track) → HasPast holds now g → MakesAllAgain holds n g.history g.ahead now.moment.state new.moment) → refusals new.moment.keeper ≡ refusals now.moment.keeper → room new.moment.keeper ≡ room now.moment.keeper → Redoing holds refusals room old new k
  redoing_none n none i only all same room_same =
      let e : k + n ≡ k = omega (arith, none) in
      subst (λ (j : ℕ). Redoing holds refusals room old new j) e (redoing_steps n i only all same room_same)

  -- a move that the keeper refused
  pub redoing_cut : (moves : ℕ) (why : Why) → k < moves → ((h : Track) → HasPast holds old h → moves ≤ length h.ahead) → Redoing holds refusals room old now k → OnlyMoment now new → StaysThere holds now.moment new.moment → refusals new.moment.keeper ≡ one_more (refusals now.moment.keeper) → room new.moment.keeper ≡ room now.moment.keeper → Obeys holds refusals room old new (λ gap. cut_again gap moves why) (if k == 0 then Err OutOfMemory else Ok (replies.Redone k whys.Memory))
  redoing_cut moves why lt there i only s more room_same =
      let is_first : (k == 0) ≡ true → k ≡ 0 = λ h. grind (arith, nat_tests) in
      let tells = cut_told (k == 0) k is_first in
      let less : nat_lt k moves ≡ true = grind (arith, nat_tests) in
      let comes : (h : Track) → HasPast holds old h → Comes holds new (λ gap. cut_again gap moves why) (if k == 0 then Err OutOfMemory else Ok (replies.Redone k whys.Memory)) (point_of old h) = λ h past.
      let many = there h past in
      let st = i.stands h past (omega (arith, many, lt)) in
      let p = on_by k (point_of old h) in
      let stands : StandsAt holds new p = (
        ap (λ (x : State). record { history = p.history; ahead = p.ahead; state = x; breaks = new.breaks; watches = new.watches }) s.state
            ∙ ap (λ (bs : List ℕ). record { history = p.history; ahead = p.ahead; state = now.moment.state; breaks = bs; watches = new.watches }) only.breaks
            ∙ ap (λ (ws : List ℕ). record { history = p.history; ahead = p.ahead; state = now.moment.state; breaks = now.breaks; watches = ws }) only.watches
            ∙ st.0,
        s.stands (track_at p) st.1,
      ) in
      comes_as holds new (λ gap. cut_again gap moves why) _ (point_of old h) (Some k) (cut_of (k == 0) k (point_of old h)) tells (rw less refl) (cut_answer (k == 0) k (point_of old h)) (cut_point (k == 0) k (point_of old h) (StandsAt holds new) is_first stands) in
      record {
        answered = λ h past. (comes h past).answered;
        stands = λ h past. (comes h past).stands;
        counted = rw tells (more ∙ ap one_more i.same);
        bounds = same-bounds room old new (only.limit ∙ i.only.limit) (room_same ∙ i.room_same);
        there = cut_there (k == 0) k new.moment.state;
      }

module _ {K : Type 0} (holds : K → List Kept → Type 0) (refusals room : K → ℕ) (old now : SessionValue K) where
  -- all of them were made again
  pub redoing_end : (moves k : ℕ) (why : Why) → k ≡ moves → why ≢ whys.Memory → ((h : Track) → HasPast holds old h → moves ≤ length h.ahead) → Redoing holds refusals room old now k → Obeys holds refusals room old now (λ gap. cut_again gap moves why) (Ok (replies.Redone moves why))
  redoing_end moves k why all other there i =
      let tells = none_told moves why other in
      let comes : (h : Track) → HasPast holds old h → Comes holds now (λ gap. cut_again gap moves why) (Ok (replies.Redone moves why)) (point_of old h) = λ h past.
      let many = there h past in
      let st = i.stands h past (omega (arith, many, all)) in
      comes_as holds now (λ gap. cut_again gap moves why) _ (point_of old h) None (redone moves why (point_of old h)) tells refl refl (subst (λ (j : ℕ). StandsAt holds now (on_by j (point_of old h))) all st) in
      record {
        answered = λ h past. (comes h past).answered;
        stands = λ h past. (comes h past).stands;
        counted = rw tells i.same;
        bounds = same-bounds room old now i.only.limit i.room_same;
        there = tt;
      }

  -- a count of moves
  pub redo_obeys : (count moves : ℕ) (why : Why) (ahead : ℕ) (answer : Result Reply Refusal) → ((h : Track) → HasPast holds old h → ahead ≡ length h.ahead) → moves ≡ min count ahead → why ≡ (if nat_le count ahead then whys.Done else whys.All) → Obeys holds refusals room old now (λ gap. cut_again gap moves why) answer → Obeys holds refusals room old now (λ gap. redo gap count) answer
  redo_obeys count moves why ahead answer counted far because o = record {
    answered = λ h past. o.answered h past ∙ ap (λ (p : Outcome). p.answer) (same h past);
    stands = λ h past. subst (λ (p : Outcome). StandsAt holds now p.point) (same h past) (o.stands h past);
    counted = o.counted;
    bounds = o.bounds;
    there = o.there;
  }
    where
      same : (h : Track) → HasPast holds old h → cut_again (gap_of answer) moves why (point_of old h) ≡ redo (gap_of answer) count (point_of old h)
      same h past =
          let n = counted h past in
          ap (λ (m : ℕ). cut_again (gap_of answer) m why (point_of old h)) (far ∙ ap (min count) n)
          ∙ ap (λ (w : Why). cut_again (gap_of answer) (again count (point_of old h)) w (point_of old h)) (because ∙ ap (λ (m : ℕ). if nat_le count m then whys.Done else whys.All) n)
