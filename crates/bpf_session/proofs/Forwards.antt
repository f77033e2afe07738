-- A forward command's run: what it stands at after k steps, and what it comes to where it stops or is cut short.
use Rattle.std.proofs.Common.{◌≡◌, ◌+◌, ◌-◌, ◌<◌, ◌≤◌, ◌==◌, ◌⊎◌, inl, inr, ℕ, zero, suc, Bool, true, false, List, [], Option, Some, None, Ok, Err, is_some, refl, sym, ap, subst, ◌∙◌, arith}
use Rattle.std.proofs.lemmas.Bool.Decides.{nat_tests}
use Rattle.std.specs.Prelude.{if◌then◌else◌, nat_lt, not, unwrap_or, IfOk}
use Rattle.std.specs.Str.{bytes_eq}
use Rattle.bpf_steps.specs.State.{State, depth}
use Rattle.bpf_steps.specs.Entries.{step_entry}
use Rattle.bpf_machine.specs.Moves.{Leads}
use Rattle.bpf_entries.specs.Past.{replaced}
use Rattle.bpf_entries.specs.Status.{has_ended}
use Rattle.bpf_machine.specs.declared.moves.Move.TheVariants.{Step}
use Rattle.bpf_entries.specs.Keeping.{Kept}
use Rattle.bpf_journal.specs.Runs.{Ends, refusals_by_run}
use Rattle.bpf_journal.specs.Tracks.{Track, track_after, track_of}
use Rattle.bpf_journal.proofs.Runs.{ends_state}
use Rattle.bpf_ring.specs.Runs.{state_after, stops_after}
use Rattle.bpf_journal.specs.Replaced.{replaces_bytes}
use Rattle.bpf_journal.proofs.Telling.{kept_bytes}
use Rattle.bpf_session.specs.Points.{Point}
use Rattle.bpf_session.specs.Outcomes.{Outcome, refused}
use Rattle.bpf_session.specs.Stops.{has, some_differs}
use Rattle.bpf_session.specs.Forward.{kept, gone, still_ahead, is_done, stop, stop_in, least, steps, taken, forward}
use Rattle.bpf_session.specs.Halting.{floor_of, halts, most_of}
use Rattle.bpf_session.specs.Watched.{bytes_at}
use Rattle.bpf_session.proofs.Watching.{compares, compares_none}
use Rattle.bpf_session.specs.Replies.{IsThere}
use Rattle.bpf_session.specs.Sessions.{SessionValue, HasPast, StandsAt, Obeys, gap_of, point_of, bounds_of, track_at}
use Rattle.bpf_session.proofs.Answering.{Comes, comes_as, same-bounds}
use Rattle.bpfdb_script.specs.declared.command.Goal.{Goal}
use Rattle.bpfdb_script.specs.declared.command.Goal.TheVariants.{Steps, Next, Continue, Finish}
use Rattle.bpfdb_script.specs.declared.why.Why.{Why}
use Rattle.bpfdb_script.specs.declared.why.Why.TheVariants.{End, Break, Watch, Done, Limit, Memory}
use Rattle.bpf_session.specs.declared.reply.Reply.TheVariants as replies
use Rattle.bpfdb_script.specs.declared.refusal.Refusal.TheVariants.{OutOfMemory}

-- the least number is not below the first one that is tried
pub least_from : (test : ℕ → Bool) (k n : ℕ) → k ≤ least test k n
least_from test k zero = omega arith
least_from test k (suc n) = elim (test k) as (λ b. k ≤ (if b then k else least test (k + 1) n)) [ true ↦ omega arith | false ↦ omega (arith, least_from test (k + 1) n) ]

-- one number that doesn't pass
pub least_next : (test : ℕ → Bool) (k n : ℕ) → 0 < n → test k ≡ false → least test k n ≡ least test (k + 1) (n - 1)
least_next test k zero h e = absurd (omega arith)
least_next test k (suc n) h e = let q : suc n - 1 ≡ n = omega arith in rw (e, q) refl

-- a number that passes
pub least_here : (test : ℕ → Bool) (k n : ℕ) → 0 < n → test k ≡ true → least test k n ≡ k
least_here test k zero h e = absurd (omega arith)
least_here test k (suc n) h e = rw e refl

-- what stops a command is never a refused step, so that its answer tells no gap
none_told : (n : ℕ) (why : Why) (ended broken changed done limit : Bool) → Some why ≡ (if ended then Some End else if broken then Some Break else if changed then Some Watch else if done then Some Done else if limit then Some Limit else None) → gap_of (Ok (replies.Forward n why)) ≡ None
none_told n why true broken changed done limit h = let e : why ≡ End = cc in rw e refl
none_told n why false true changed done limit h = let e : why ≡ Break = cc in rw e refl
none_told n why false false true done limit h = let e : why ≡ Watch = cc in rw e refl
none_told n why false false false true limit h = let e : why ≡ Done = cc in rw e refl
none_told n why false false false false true h = let e : why ≡ Limit = cc in rw e refl
none_told n why false false false false false h = cc

-- a command that a refused step cut short tells how many were kept
cut_told : (first : Bool) (k : ℕ) → (first ≡ true → k ≡ 0) → gap_of (if first then Err OutOfMemory else Ok (replies.Forward k Memory)) ≡ Some k
cut_told true k z = ap Some (sym (z refl))
cut_told false k z = refl

-- a command that a refused step cut short: what it answers, and what it leaves
abbrev cut_of : Bool → ℕ → ℕ → Point → Outcome
cut_of first room k p = if first then refused OutOfMemory p else taken room k Memory p

cut_answer : (first : Bool) (room k : ℕ) (p : Point) → (if first then Err OutOfMemory else Ok (replies.Forward k Memory)) ≡ (cut_of first room k p).answer
cut_answer true room k p = refl
cut_answer false room k p = refl

cut_point : (first : Bool) (room k : ℕ) (p : Point) (P : Point → Type 0) → (first ≡ true → k ≡ 0) → P (gone room k p) → P (cut_of first room k p).point
cut_point true room k p P z q = subst (λ (j : ℕ). P (gone room j p)) (z refl) q
cut_point false room k p P z q = q

is_first : (k : ℕ) → (k == 0) ≡ true → k ≡ 0
is_first k h = grind (arith, nat_tests)

lt_true : (j k : ℕ) → j < k → nat_lt j k ≡ true
lt_true j k h = grind (arith, nat_tests)

-- and names nothing that could be missing
cut_there : (first : Bool) (k : ℕ) (x : State) → IfOk (if first then Err OutOfMemory else Ok (replies.Forward k Memory)) (λ reply. IsThere reply x)
cut_there true k x = tt
cut_there false k x = tt

-- a session of which only the moment has changed
pub record OnlyMoment {K : Type 0} (old now : SessionValue K) : Type 0 where
  pub breaks : now.breaks ≡ old.breaks
  pub watches : now.watches ≡ old.watches
  pub limit : now.limit ≡ old.limit

module _ {K : Type 0} (holds : K → List Kept → Type 0) where
  -- where it stands after so many steps
  pub stands_gone : (room k : ℕ) (old now : SessionValue K) (h : Track) → OnlyMoment old now → now.moment.state ≡ state_after k old.moment.state → HasPast holds now (track_at (gone room k (point_of old h))) → StandsAt holds now (gone room k (point_of old h))
  stands_gone room k old now h only state past = (
    ap (λ (x : State). record { history = kept room k (point_of old h); ahead = still_ahead k h.ahead; state = x; breaks = now.breaks; watches = now.watches }) state
        ∙ ap (λ (bs : List ℕ). record { history = kept room k (point_of old h); ahead = still_ahead k h.ahead; state = state_after k old.moment.state; breaks = bs; watches = now.watches }) only.breaks
        ∙ ap (λ (ws : List ℕ). record { history = kept room k (point_of old h); ahead = still_ahead k h.ahead; state = state_after k old.moment.state; breaks = old.breaks; watches = ws }) only.watches,
    past,
  )

-- a history after so many steps is that of the run of the journal
same_track : {K : Type 0} (room k : ℕ) (s : SessionValue K) (h : Track) → track_after room k s.moment.state h ≡ track_at (gone room k (point_of s h))
same_track room zero s h = refl
same_track room (suc k) s h = refl

-- the least number is this one, where it passes and no smaller one does
pub least_is : (test : ℕ → Bool) (k d n : ℕ) → ((j : ℕ) → k ≤ j → j < k + d → test j ≡ false) → test (k + d) ≡ true → d < n → least test k n ≡ k + d
least_is test k zero n none here low = let e : k + 0 ≡ k = omega arith in least_here test k n (omega arith) (ap test (sym e) ∙ here) ∙ sym e
least_is test k (suc d) n none here low =
    let e : k + suc d ≡ k + 1 + d = omega arith in
    least_next test k n (omega arith) (none k (omega arith) (omega arith))
    ∙ least_is test (k + 1) d (n - 1) (λ j from to. none j (omega arith) (omega (arith, to, e))) (ap test (sym e) ∙ here) (omega arith)
    ∙ sym e

-- and no smaller one where none up to it passes
least_beyond : (test : ℕ → Bool) (k d n : ℕ) → ((j : ℕ) → k ≤ j → j < k + d → test j ≡ false) → d ≤ n → k + d ≤ least test k n
least_beyond test k zero n none low = omega (arith, least_from test k n)
least_beyond test k (suc d) n none low =
    let e : k + suc d ≡ k + 1 + d = omega arith in
    let more = least_beyond test (k + 1) d (n - 1) (λ j from to. none j (omega arith) (omega (arith, to, e))) (omega arith) in
    omega (arith, e, more, least_next test k n (omega arith) (none k (omega arith) (omega arith)))

-- what a run that goes on tells of its last step
goes_on : (ended broken low differs : Bool) → (if ended then true else if broken then true else if low then true else differs) ≡ false → (ended ≡ false) × (broken ≡ false) × (low ≡ false) × (differs ≡ false)
goes_on true broken low differs h = cc
goes_on false true low differs h = cc
goes_on false false true differs h = cc
goes_on false false false true h = cc
goes_on false false false false h = (refl, refl, refl, refl)

-- and one that stops
stops_some : (ended broken changed done limit low differs : Bool) → (low ≡ true → done ≡ true) → (differs ≡ true → changed ≡ true) → (if ended then true else if broken then true else if low then true else differs) ≡ true
    → is_some (if ended then Some End else if broken then Some Break else if changed then Some Watch else if done then Some Done else if limit then Some Limit else None) ≡ true
stops_some true broken changed done limit low differs a b h = refl
stops_some false true changed done limit low differs a b h = refl
stops_some false false true done limit low differs a b h = refl
stops_some false false false true limit low differs a b h = refl
stops_some false false false false limit true differs a b h = let e = a refl in cc
stops_some false false false false limit false true a b h = let e = b refl in cc
stops_some false false false false limit false false a b h = cc

ends_some : (ended broken changed done limit : Bool) → (done ≡ true) ⊎ (limit ≡ true)
    → is_some (if ended then Some End else if broken then Some Break else if changed then Some Watch else if done then Some Done else if limit then Some Limit else None) ≡ true
ends_some true broken changed done limit h = refl
ends_some false true changed done limit h = refl
ends_some false false true done limit h = refl
ends_some false false false true limit h = refl
ends_some false false false false true h = refl
ends_some false false false false false (inl e) = cc
ends_some false false false false false (inr e) = cc

some_is : (o : Option Why) (d : Why) → is_some o ≡ true → Some (unwrap_or o d) ≡ o
some_is None d h = cc
some_is (Some why) d h = refl

-- a command is done where the depth is below its floor, or its count is reached
done_below : (goal : Goal) (start k : ℕ) (y : State) → nat_lt (depth y) (floor_of goal start) ≡ true → is_done goal start k y ≡ true
done_below (Steps count) start k y h = grind (arith, nat_tests)
done_below Next start k y h = grind (arith, nat_tests)
done_below Continue start k y h = grind (arith, nat_tests)
done_below Finish start k y h = h

not_done : (goal : Goal) (start k limit : ℕ) (y : State) → nat_lt (depth y) (floor_of goal start) ≡ false → k < most_of goal limit → (is_done goal start k y ≡ false) × ((k == limit) ≡ false)
not_done (Steps count) start k limit y h low = (grind (arith, nat_tests), grind (arith, nat_tests))
not_done Next start k limit y h low = (grind (arith, nat_tests), grind (arith, nat_tests))
not_done Continue start k limit y h low = (refl, grind (arith, nat_tests))
not_done Finish start k limit y h low = (h, grind (arith, nat_tests))

done_at_most : (goal : Goal) (start k limit : ℕ) (y : State) → k ≡ most_of goal limit → (is_done goal start k y ≡ true) ⊎ ((k == limit) ≡ true)
done_at_most (Steps count) start k limit y h = by_less (nat_lt count limit) refl where
  by_less : (b : Bool) → nat_lt count limit ≡ b → ((k == count) ≡ true) ⊎ ((k == limit) ≡ true)
  by_less true e = inl (grind (arith, nat_tests))
  by_less false e = inr (grind (arith, nat_tests))
done_at_most Next start k limit y h = inr (grind (arith, nat_tests))
done_at_most Continue start k limit y h = inr (grind (arith, nat_tests))
done_at_most Finish start k limit y h = inr (grind (arith, nat_tests))

pub most_within : (goal : Goal) (limit : ℕ) → most_of goal limit ≤ limit
most_within (Steps count) limit = grind (arith, nat_tests)
most_within Next limit = omega arith
most_within Continue limit = omega arith
most_within Finish limit = omega arith

-- the watched bytes behind a step that stopped nothing are those that were seen before it
seen_more : (watches seen : List ℕ) (x y : State) (replaced : Bool) → Leads x Step y → replaced ≡ replaces_bytes (step_entry x) → seen ≡ bytes_at watches x
    → (if replaced then not (bytes_eq (bytes_at watches y) seen) else false) ≡ false → (seen ≡ bytes_at watches y) × (some_differs watches x y ≡ false)
seen_more watches seen x y true leads is saw quiet =
    let c = compares watches seen x y (not (bytes_eq (bytes_at watches y) seen)) saw refl in
    (c.same quiet, sym c.since ∙ quiet)
seen_more watches seen x y false leads is saw quiet =
    let c = compares_none watches seen x y saw (λ a. kept_bytes x y Step leads (sym is) a) in
    (c.same refl, sym c.since)

module _ (breaks watches seen : List ℕ) (floor : ℕ) (x : State) (n : ℕ) (saw : seen ≡ bytes_at watches x) (leads : (k : ℕ) → suc k < n → Leads (state_after k x) Step (state_after (suc k) x))
    (quiet : (k : ℕ) → k < n → stops_after (halts breaks watches seen floor) x k ≡ false) where
  -- what a step tells that is not the last one
  step_quiet : (k : ℕ) → suc k < n → (has_ended (state_after (suc k) x).status ≡ false) × (has breaks (state_after (suc k) x).pc ≡ false) × (nat_lt (depth (state_after (suc k) x)) floor ≡ false)
      × ((if is_some (replaced 0 (step_entry (state_after k x))) then not (bytes_eq (bytes_at watches (state_after (suc k) x)) seen) else false) ≡ false)
  step_quiet k low = goes_on (has_ended (state_after (suc k) x).status) (has breaks (state_after (suc k) x).pc) (nat_lt (depth (state_after (suc k) x)) floor)
      (if is_some (replaced 0 (step_entry (state_after k x))) then not (bytes_eq (bytes_at watches (state_after (suc k) x)) seen) else false) (quiet (suc k) low)

  seen_still : (k : ℕ) → k < n → seen ≡ bytes_at watches (state_after k x)
  seen_still zero low = saw
  seen_still (suc k) low =
      (seen_more watches seen (state_after k x) (state_after (suc k) x) (is_some (replaced 0 (step_entry (state_after k x)))) (leads k low) refl (seen_still k (omega (arith, low))) (step_quiet k low).3).0

  same_watched : (k : ℕ) → suc k < n → some_differs watches (state_after k x) (state_after (suc k) x) ≡ false
  same_watched k low =
      (seen_more watches seen (state_after k x) (state_after (suc k) x) (is_some (replaced 0 (step_entry (state_after k x)))) (leads k low) refl (seen_still k (omega (arith, low))) (step_quiet k low).3).1

-- the run of a command
pub record Ran {K : Type 0} (holds : K → List Kept → Type 0) (refusals room : K → ℕ) (old new : SessionValue K) (goal : Goal) (seen : List ℕ) (n : ℕ) (cut : Bool) : Type 0 where
  pub only : OnlyMoment old new
  pub saw : seen ≡ bytes_at old.watches old.moment.state
  pub ends : Ends (halts old.breaks old.watches seen (floor_of goal (depth old.moment.state))) (most_of goal old.limit) old.moment.state new.moment.state n cut
  pub kept : (h : Track) → HasPast holds old h → HasPast holds new (track_after (room old.moment.keeper) n old.moment.state h)
  pub refused : refusals new.moment.keeper ≡ refusals_by_run cut (refusals old.moment.keeper)
  pub room_same : room new.moment.keeper ≡ room old.moment.keeper

pub ran : {K : Type 0} (holds : K → List Kept → Type 0) (refusals room : K → ℕ) (old new : SessionValue K) (goal : Goal) (seen : List ℕ) (start floor most n : ℕ) (cut : Bool) → start ≡ depth old.moment.state → floor ≡ floor_of goal start → most ≡ most_of goal old.limit → OnlyMoment old new → seen ≡ bytes_at old.watches old.moment.state
    → Ends (halts old.breaks old.watches seen floor) most old.moment.state new.moment.state n cut
    → ((h : Track) → HasPast holds old h → HasPast holds new (track_after (room old.moment.keeper) n old.moment.state h))
    → refusals new.moment.keeper ≡ refusals_by_run cut (refusals old.moment.keeper) → room new.moment.keeper ≡ room old.moment.keeper → Ran holds refusals room old new goal seen n cut
ran holds refusals room old new goal seen start floor most n cut began low all only saw ends kept refused room_same = record {
  only = only;
  saw = saw;
  ends =
      subst (λ m. Ends (halts old.breaks old.watches seen (floor_of goal (depth old.moment.state))) m old.moment.state new.moment.state n cut) all
      (subst (λ f. Ends (halts old.breaks old.watches seen f) most old.moment.state new.moment.state n cut) (low ∙ ap (floor_of goal) began) ends);
  kept = kept;
  refused = refused;
  room_same = room_same;
}

module _ {K : Type 0} (holds : K → List Kept → Type 0) (refusals room : K → ℕ) (old new : SessionValue K) (goal : Goal) (seen : List ℕ) where
  -- what a forward command means that is not refused
  abbrev pub Meaning : Option ℕ → Point → Outcome
  Meaning gap p = forward gap (bounds_of room old) goal p

  abbrev test_of : Bool → State → Bool
  test_of = halts old.breaks old.watches seen (floor_of goal (depth old.moment.state))

  -- no smaller number of steps stops it
  none_before : (n : ℕ) → n ≤ most_of goal old.limit → seen ≡ bytes_at old.watches old.moment.state → ((k : ℕ) → suc k < n → Leads (state_after k old.moment.state) Step (state_after (suc k) old.moment.state))
      → ((k : ℕ) → k < n → stops_after test_of old.moment.state k ≡ false)
      → (h : Track) (j : ℕ) → 1 ≤ j → j < n → is_some (stop old.limit goal (point_of old h) j) ≡ false
  none_before n within saw leads quiet h zero some low = absurd (omega arith)
  none_before n within saw leads quiet h (suc k) some low =
      let x = old.moment.state in
      let q = step_quiet old.breaks old.watches seen (floor_of goal (depth x)) x n saw leads quiet k low in
      let w = same_watched old.breaks old.watches seen (floor_of goal (depth x)) x n saw leads quiet k low in
      let d = not_done goal (depth x) (suc k) old.limit (state_after (suc k) x) q.2 (omega (arith, within, low)) in
      let none : stop_in old.limit goal (point_of old h) (suc k) (state_after k x) (state_after (suc k) x) ≡ None = rw (q.0, q.1, w, d.0, d.1) refl in
      ap is_some none

  -- where it stands
  stands_there : (n : ℕ) (cut : Bool) → Ran holds refusals room old new goal seen n cut → (h : Track) → HasPast holds old h → StandsAt holds new (gone (room old.moment.keeper) n (point_of old h))
  stands_there n cut r h st =
      let state : new.moment.state ≡ state_after n old.moment.state = ends_state _ _ _ _ _ cut r.ends in
      stands_gone holds (room old.moment.keeper) n old new h r.only state
      (subst (HasPast holds new) (same_track (room old.moment.keeper) n old h) (r.kept h st))

  -- what a look at the last step says
  abbrev pub Stopping : ℕ → Bool → Why → Type 0
  Stopping n differs why = (x : State) (h : Track) → differs ≡ some_differs new.watches x new.moment.state → why ≡ unwrap_or (stop_in new.limit goal (record (point_of new h) { state = old.moment.state }) n x new.moment.state) Limit

  -- a run that stops
  pub ran_to : (n : ℕ) → Ran holds refusals room old new goal seen n false → (differs : Bool) → differs ≡ not (bytes_eq (bytes_at new.watches new.moment.state) seen) → (why : Why) → Stopping n differs why
      → Obeys holds refusals room old new Meaning (Ok (replies.Forward n why))
  ran_to zero r differs told why stops = absurd (omega (arith, r.ends.some))
  ran_to (suc k) r differs told why stops =
      let x = old.moment.state in
      let y = new.moment.state in
      let a = state_after k x in
      let floor = floor_of goal (depth x) in
      let ends = r.ends in
      let leads : (j : ℕ) → suc j < suc k → Leads (state_after j x) Step (state_after (suc j) x) = λ j low. ends.steps j (omega (arith, low)) in
      let saw : seen ≡ bytes_at old.watches a = seen_still old.breaks old.watches seen floor x (suc k) r.saw leads ends.before k (omega arith) in
      let compared = compares old.watches seen a (state_after (suc k) x) (not (bytes_eq (bytes_at old.watches (state_after (suc k) x)) seen)) saw refl in
      let now : differs ≡ some_differs new.watches a y = (compares new.watches seen a y differs (saw ∙ ap (λ (ws : List ℕ). bytes_at ws a) (sym r.only.watches)) told).since in
      let here : (h : Track) → stop_in new.limit goal (record (point_of new h) { state = x }) (suc k) a y ≡ stop old.limit goal (point_of old h) (suc k) = λ h. at_old h k r.only ends.state in
      let some : (h : Track) → is_some (stop old.limit goal (point_of old h) (suc k)) ≡ true = λ h. stopped k compared.since ends.last in
      let is_why : (h : Track) → stop old.limit goal (point_of old h) (suc k) ≡ Some why = λ h. sym (some_is (stop old.limit goal (point_of old h) (suc k)) Limit (some h)) ∙ ap Some (sym (stops a h now ∙ ap (λ o. unwrap_or o Limit) (here h))) in
      let tells = none_told (suc k) why _ _ _ _ _ (sym (is_why (track_of []))) in
      let comes : (h : Track) → HasPast holds old h → Comes holds new Meaning (Ok (replies.Forward (suc k) why)) (point_of old h) = λ h st.
      let there = is_why h in
      let low : k < old.limit = omega (arith, ends.within, most_within goal old.limit) in
      let e : 1 + k ≡ suc k = omega arith in
      let n : steps old.limit goal (point_of old h) ≡ suc k =
      least_is (λ j. is_some (stop old.limit goal (point_of old h) j)) 1 k old.limit (λ j from to. none_before (suc k) ends.within r.saw leads ends.before h j from (omega (arith, to))) (rw e (some h)) low ∙ e in
      let is : Meaning None (point_of old h) ≡ taken (room old.moment.keeper) (suc k) why (point_of old h) = rw (n, there) refl in
      comes_as holds new Meaning _ (point_of old h) None _ tells is refl (stands_there (suc k) false r h st) in
      record {
        answered = λ h st. (comes h st).answered;
        stands = λ h st. (comes h st).stands;
        counted = rw tells r.refused;
        bounds = same-bounds room old new r.only.limit r.room_same;
        there = tt;
      }
    where
      at_old : (h : Track) (k : ℕ) → OnlyMoment old new → new.moment.state ≡ state_after (suc k) old.moment.state → stop_in new.limit goal (record (point_of new h) { state = old.moment.state }) (suc k) (state_after k old.moment.state) new.moment.state ≡ stop old.limit goal (point_of old h) (suc k)
      at_old h k only is = rw (only.limit, only.breaks, only.watches, is) refl

      changed_if : (replaced b : Bool) → (if replaced then b else false) ≡ true → b ≡ true
      changed_if true b h = h
      changed_if false b h = cc

      stopped : (k : ℕ) → not (bytes_eq (bytes_at old.watches (state_after (suc k) old.moment.state)) seen) ≡ some_differs old.watches (state_after k old.moment.state) (state_after (suc k) old.moment.state)
          → (stops_after test_of old.moment.state (suc k) ≡ true) ⊎ (suc k ≡ most_of goal old.limit)
          → is_some (stop_in old.limit goal (point_of old (track_of [])) (suc k) (state_after k old.moment.state) (state_after (suc k) old.moment.state)) ≡ true
      stopped k same (inl stops) =
          stops_some _ _ _ _ _ _ _ (done_below goal (depth old.moment.state) (suc k) (state_after (suc k) old.moment.state))
          (λ h. sym same ∙ changed_if (is_some (replaced 0 (step_entry (state_after k old.moment.state)))) _ h) stops
      stopped k same (inr all) = ends_some _ _ _ _ _ (done_at_most goal (depth old.moment.state) (suc k) old.limit (state_after (suc k) old.moment.state) all)

  -- a run that the keeper cut short
  pub ran_cut : (n : ℕ) → Ran holds refusals room old new goal seen n true → Obeys holds refusals room old new Meaning (if n == 0 then Err OutOfMemory else Ok (replies.Forward n Memory))
  ran_cut n r =
      let ends = r.ends.0 in
      let low = r.ends.1 in
      let tells = cut_told (n == 0) n (is_first n) in
      let comes : (h : Track) → HasPast holds old h → Comes holds new Meaning (if n == 0 then Err OutOfMemory else Ok (replies.Forward n Memory)) (point_of old h) = λ h st.
      let far : 1 + n ≤ steps old.limit goal (point_of old h) =
      least_beyond (λ j. is_some (stop old.limit goal (point_of old h) j)) 1 n old.limit
      (λ j from to. none_before (suc n) (omega (arith, low)) r.saw (λ k less. ends.steps k (omega (arith, less))) (λ k less. ends.on k (omega (arith, less))) h j from (omega (arith, to)))
      (omega (arith, low, most_within goal old.limit)) in
      let lt : nat_lt n (steps old.limit goal (point_of old h)) ≡ true = lt_true _ _ (omega (arith, far)) in
      let is : Meaning (Some n) (point_of old h) ≡ cut_of (n == 0) (room old.moment.keeper) n (point_of old h) = rw lt refl in
      let stands = stands_there n true r h st in
      comes_as holds new Meaning _ (point_of old h) (Some n) _ tells is (cut_answer (n == 0) (room old.moment.keeper) n (point_of old h)) (cut_point (n == 0) (room old.moment.keeper) n (point_of old h) (StandsAt holds new) (is_first n) stands) in
      record {
        answered = λ h st. (comes h st).answered;
        stands = λ h st. (comes h st).stands;
        counted = rw tells r.refused;
        bounds = same-bounds room old new r.only.limit r.room_same;
        there = cut_there (n == 0) n new.moment.state;
      }
