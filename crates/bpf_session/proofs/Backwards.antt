-- A backward command's loop: after k turns the session is at the state before the k-th last move.
use Rattle.std.specs.Prelude.{if◌then◌else◌, min, nat_le}
use Rattle.std.proofs.Common.{◌≡◌, ◌≢◌, ◌+◌, ◌-◌, ◌<◌, ◌≤◌, ◌==◌, ◌&&◌, ◌||◌, ℕ, zero, suc, Bool, true, false, List, [], ◌∷◌, Option, Some, None, Ok, is_some, unwrap_or, option_map, length, drop, take, reverse, ◌++◌, refl, sym, ap, subst, ◌∙◌, arith, add-one}
use Rattle.std.proofs.lemmas.Bool.Decides.{nat_tests}
use Rattle.std.proofs.lemmas.List.{reverse-append}
use Rattle.bpf_steps.specs.State.{State}
use Rattle.bpf_steps.specs.ByAddress.{byte}
use Rattle.bpf_machine.specs.Moves.{Leads}
use Rattle.bpf_entries.specs.Keeping.{Kept}
use Rattle.bpf_journal.specs.Histories.{Record, IsRun, is_step}
use Rattle.bpf_journal.specs.Lookups.{Test, latest, state_before}
use Rattle.bpf_journal.proofs.Telling.{kept_bytes}
use Rattle.bpf_journal.specs.TakingBack.{taken_of}
use Rattle.bpf_journal.specs.Courses.{GoesBackOne}
use Rattle.bpf_journal.specs.Tracks.{Track, track_of}
use Rattle.bpf_journal.specs.declared.taken.Taken.{Taken}
use Rattle.bpf_session.specs.Points.{Point}
use Rattle.bpf_session.specs.Outcomes.{Outcome}
use Rattle.bpf_session.specs.Backward.{before_last, back, back_by, found, gone_back, passes, kept_steps, to_stop}
use Rattle.bpfdb_script.specs.declared.why.Why.{Why}
use Rattle.bpf_session.specs.declared.reply.Reply.TheVariants.{Back}
use Rattle.bpf_session.specs.Searches.{GoesBackTo, count_in, why_found}
use Rattle.bpf_session.specs.Sessions.{SessionValue, HasPast, StandsAt, Obeys, bounds_of, point_of, track_at}
use Rattle.bpf_session.specs.Stops.{has, breaks_at, some_differs}
use Rattle.bpf_session.specs.Watched.{Compares, bytes_at}
use Rattle.bpf_session.specs.declared.session.backward.Found.{Found}
use Rattle.bpfdb_script.specs.declared.command.Target.{Target}
use Rattle.bpfdb_script.specs.declared.command.Target.TheVariants.{Commands, Steps, Next, Continue, Finish}
use Rattle.bpf_session.proofs.Forwards.{OnlyMoment}

-- a record of the history
pub record At (h : List Record) (k : ℕ) : Type 0 where
  pub found : Record
  pub front : drop k h ≡ found ∷ drop (suc k) h
  pub there : (y : State) → state_before (suc k) h y ≡ found.before

pub record_at : (h : List Record) (k : ℕ) → k < length h → At h k
record_at [] k lt = absurd (omega arith)
record_at (r ∷ h) zero lt = record { found = r; front = refl; there = λ y. refl }
record_at (r ∷ h) (suc k) lt = let a = record_at h k (omega arith) in record { found = a.found; front = a.front; there = λ y. a.there r.before }

-- what is taken back next goes in front of what was taken back before
pub put_in_front : (k : ℕ) (h : List Record) (r : Record) (f : List Record) → drop k h ≡ r ∷ drop (suc k) h → reverse (take (suc k) h) ++ f ≡ r ∷ (reverse (take k h) ++ f)
put_in_front k h r f front =
    ap (λ (xs : List Record). reverse xs ++ f) (taken_next k h r front) ∙ ap (λ (xs : List Record). xs ++ f) (reverse-append (take k h) (r ∷ []))
  where
    taken_next : (k : ℕ) (h : List Record) (r : Record) → drop k h ≡ r ∷ drop (suc k) h → take (suc k) h ≡ take k h ++ r ∷ []
    taken_next zero [] r front = absurd cc
    taken_next zero (q ∷ h) r front = let is : q ≡ r = cc in ap (λ (x : Record). x ∷ []) is
    taken_next (suc k) [] r front = absurd cc
    taken_next (suc k) (q ∷ h) r front = ap (λ (xs : List Record). q ∷ xs) (taken_next k h r front)

drop_all : (h : List Record) → drop (length h) h ≡ []
drop_all [] = refl
drop_all (r ∷ h) = drop_all h

-- so many moves further back
abbrev pub shifted : ℕ → Option ℕ → Option ℕ
shifted k None = None
shifted k (Some n) = Some (k + n)

shifted_more : (k : ℕ) (o : Option ℕ) → shifted k (option_map suc o) ≡ shifted (k + 1) o
shifted_more k None = refl
shifted_more k (Some n) = ap Some (let e : k + suc n ≡ k + 1 + n = omega arith in e)

-- what the latest record is, by the newest one
latest_hit : (test : Test) (h : List Record) (r : Record) (y : State) → test r y ≡ true → latest test 1 (r ∷ h) y ≡ Some 1
latest_hit test h r y hit = rw hit refl

pub latest_next : (test : Test) (n : ℕ) (h : List Record) (r : Record) (y : State) → test r y ≡ true → (n == 1) ≡ false → latest test n (r ∷ h) y ≡ option_map suc (latest test (n - 1) h r.before)
latest_next test n h r y hit more = rw (hit, more) refl

pub latest_miss : (test : Test) (n : ℕ) (h : List Record) (r : Record) (y : State) → test r y ≡ false → latest test n (r ∷ h) y ≡ option_map suc (latest test n h r.before)
latest_miss test n h r y miss = rw miss refl

-- what is looked for depends on the breakpoints, the watches and the state alone
pub passes_same : (target : Target) (x : State) (breaks bs watches ws : List ℕ) → breaks ≡ bs → watches ≡ ws → (r : Record) (y : State) → passes target (record { history = []; ahead = []; state = x; breaks = breaks; watches = watches }) r y ≡ passes target (record { history = []; ahead = []; state = x; breaks = bs; watches = ws }) r y
passes_same (Commands n) x breaks bs watches ws b w r y = refl
passes_same (Steps n) x breaks bs watches ws b w r y = refl
passes_same Next x breaks bs watches ws b w r y = refl
passes_same Finish x breaks bs watches ws b w r y = refl
passes_same Continue x breaks bs watches ws b w r y =
    ap (λ (v : List ℕ). is_step r.move && (has v r.before.pc || some_differs watches r.before y)) b
    ∙ ap (λ (v : List ℕ). is_step r.move && (has bs r.before.pc || some_differs v r.before y)) w

passes_past : {K : Type 0} (target : Target) (s : SessionValue K) (h : Track) → passes target (point_of s (track_of [])) ≡ passes target (point_of s h)
passes_past (Commands n) s h = refl
passes_past (Steps n) s h = refl
passes_past Next s h = refl
passes_past Continue s h = refl
passes_past Finish s h = refl

pub went_for : {K : Type 0} (holds : K → List Kept → Type 0) (target : Target) (n : ℕ) (h : Track) (old new : SessionValue K) (found : Found) → GoesBackTo holds (passes target (point_of old (track_of []))) n h old new found → GoesBackTo holds (passes target (point_of old h)) n h old new found
went_for holds target n h old new found went = subst (λ (t : Test). GoesBackTo holds t n h old new found) (passes_past target old h) went

-- what a look says, of what was looked for from the beginning
pub looked : {K : Type 0} (old new : SessionValue K) (target : Target) (taken : Taken) (differs : Bool) (hits : ℕ) (y : State) → new.breaks ≡ old.breaks → new.watches ≡ old.watches → ((r : Record) (z : State) → taken ≡ taken_of r → new.moment.state ≡ r.before → differs ≡ some_differs new.watches r.before z → hits ≡ (if passes target (record (point_of new (track_of [])) { state = old.moment.state }) r z then 1 else 0)) → (r : Record) → Some taken ≡ Some (taken_of r) → new.moment.state ≡ r.before → differs ≡ some_differs new.watches new.moment.state y → hits ≡ (if passes target (point_of old (track_of [])) r y then 1 else 0)
looked old new target taken differs hits y breaks watches says r is state told_differs =
    let told : taken ≡ taken_of r = cc in
    says r y told state (told_differs ∙ ap (λ (x : State). some_differs new.watches x y) state)
    ∙ ap (λ (b : Bool). if b then 1 else 0) (passes_same target old.moment.state new.breaks old.breaks new.watches old.watches breaks watches r y)

-- what a comparison of the watched bytes says of the move that was taken back
pub comparing : {K : Type 0} (watches : List ℕ) (y : State) (new : SessionValue K) (seen : List ℕ) (taken : Taken) (differs : Bool) → new.watches ≡ watches → ((x : State) → seen ≡ bytes_at new.watches x → (taken.replaced_bytes ≡ false → (a : ℕ) → byte x a ≡ byte new.moment.state a) → Compares new.watches seen x new.moment.state differs) → (r : Record) → Some taken ≡ Some (taken_of r) → Leads r.before r.move y → new.moment.state ≡ r.before → seen ≡ bytes_at watches y → Compares new.watches seen y new.moment.state differs
comparing watches y new seen taken differs same compare r is leads state saw =
    let told : taken ≡ taken_of r = cc in
    compare y (saw ∙ ap (λ (ws : List ℕ). bytes_at ws y) (sym same))
    (λ off a. sym (kept_bytes r.before y r.move leads (sym (ap (λ (t : Taken). t.replaced_bytes) told) ∙ off) a) ∙ ap (λ (x : State). byte x a) (sym state))

-- what holds after k turns, of which some found what is sought: so many are left to be found
pub record Seeking {K : Type 0} (holds : K → List Kept → Type 0) (refusals room : K → ℕ) (test : Test) (n : ℕ) (old now : SessionValue K) (seen : List ℕ) (left k : ℕ) : Type 0 where
  pub only : OnlyMoment old now
  pub same : refusals now.moment.keeper ≡ refusals old.moment.keeper
  pub room_same : room now.moment.keeper ≡ room old.moment.keeper
  pub some : 1 ≤ left
  pub saw : (h : Track) → HasPast holds old h → k ≤ length h.history → seen ≡ bytes_at now.watches now.moment.state
  pub stands : (h : Track) → HasPast holds old h → k ≤ length h.history → StandsAt holds now (back_by k (point_of old h))
  pub rest : (h : Track) → HasPast holds old h → k ≤ length h.history → latest test n h.history old.moment.state ≡ shifted k (latest test left (drop k h.history) now.moment.state)

module _ {K : Type 0} (holds : K → List Kept → Type 0) (refusals room : K → ℕ) (test : Test) (n : ℕ) (old now : SessionValue K) where
  module _ (new : SessionValue K) (seen : List ℕ) (left k : ℕ) (taken : Option Taken) (i : Seeking holds refusals room test n old now seen left k) (only : OnlyMoment now new) (back : (g : Track) → HasPast holds now g → GoesBackOne holds taken g.history g.ahead now.moment new.moment) where
    -- the move that was taken back
    record Before (h : Track) : Type 0 where
      pub r : Record
      pub front : drop k h.history ≡ r ∷ drop (k + 1) h.history
      pub is : taken ≡ Some (taken_of r)
      pub state : new.moment.state ≡ r.before
      pub leads : Leads r.before r.move now.moment.state
      pub saw : seen ≡ bytes_at now.watches now.moment.state
      pub stands : StandsAt holds new (back_by (k + 1) (point_of old h))

    back_at : (h : Track) → HasPast holds old h → k < length h.history → Before h
    back_at h past lt =
        let a = record_at h.history k lt in
        let st = i.stands h past (omega arith) in
        let b = subst (λ (g : List Record). GoesBackOne holds taken g (reverse (take k h.history) ++ h.ahead) now.moment new.moment) a.front (back (track_at (back_by k (point_of old h))) st.1) in
        let here : before_last (k + 1) (point_of old h) ≡ a.found.before = rw add-one (a.there old.moment.state) in
        let run : IsRun (a.found ∷ drop (suc k) h.history) now.moment.state = subst (λ (g : List Record). IsRun g now.moment.state) a.front st.1.history.1 in
        record {
          r = a.found;
          front = rw add-one a.front;
          is = b.0;
          state = b.1;
          leads = run.0;
          saw = i.saw h past (omega arith);
          stands = (
            ap (λ (x : State). record { history = drop (k + 1) h.history; ahead = reverse (take (k + 1) h.history) ++ h.ahead; state = x; breaks = new.breaks; watches = new.watches }) (b.1 ∙ sym here)
                ∙ ap (λ (bs : List ℕ). record { history = drop (k + 1) h.history; ahead = reverse (take (k + 1) h.history) ++ h.ahead; state = before_last (k + 1) (point_of old h); breaks = bs; watches = new.watches }) (only.breaks ∙ i.only.breaks)
                ∙ ap (λ (ws : List ℕ). record { history = drop (k + 1) h.history; ahead = reverse (take (k + 1) h.history) ++ h.ahead; state = before_last (k + 1) (point_of old h); breaks = old.breaks; watches = ws }) (only.watches ∙ i.only.watches),
            rw add-one (subst (λ (f : List Record). HasPast holds new (record { history = drop (suc k) h.history; ahead = f })) (sym (put_in_front k h.history a.found h.ahead a.front)) b.2),
          );
        }

    only_more : OnlyMoment old new
    only_more = record { breaks = only.breaks ∙ i.only.breaks; watches = only.watches ∙ i.only.watches; limit = only.limit ∙ i.only.limit }

    -- what a comparison of the watched bytes says, and a look at the move
    abbrev pub CompareSeen : Bool → Type 0
    CompareSeen differs = (r : Record) → taken ≡ Some (taken_of r) → Leads r.before r.move now.moment.state → new.moment.state ≡ r.before → seen ≡ bytes_at now.watches now.moment.state → Compares new.watches seen now.moment.state new.moment.state differs

    abbrev pub Looks : Bool → ℕ → Type 0
    Looks differs hits = (r : Record) → taken ≡ Some (taken_of r) → new.moment.state ≡ r.before → differs ≡ some_differs new.watches new.moment.state now.moment.state → hits ≡ (if test r now.moment.state then 1 else 0)

    compared_at : (differs : Bool) → CompareSeen differs → (h : Track) → Before h → Compares new.watches seen now.moment.state new.moment.state differs
    compared_at differs compare h b = compare b.r b.is b.leads b.state b.saw

    -- one more turn
    pub seeking_step : (hits : ℕ) (differs : Bool) (seen' : List ℕ) → refusals new.moment.keeper ≡ refusals now.moment.keeper → room new.moment.keeper ≡ room now.moment.keeper → CompareSeen differs → seen' ≡ (if differs then bytes_at new.watches new.moment.state else seen) → Looks differs hits → left - hits ≢ 0 → Seeking holds refusals room test n old new seen' (left - hits) (k + 1)
    seeking_step hits differs seen' same room_same compare sees looks more = record {
      only = only_more;
      same = same ∙ i.same;
      room_same = room_same ∙ i.room_same;
      some = omega arith;
      saw = λ h past le. let b = back_at h past (omega arith) in sees ∙ now_seen differs (compared_at differs compare h b);
      stands = λ h past le. (back_at h past (omega arith)).stands;
      rest = λ h past le.
          let b = back_at h past (omega arith) in
          i.rest h past (omega arith)
          ∙ ap (λ (g : List Record). shifted k (latest test left g now.moment.state)) b.front
          ∙ ap (shifted k) (one_less (drop (k + 1) h.history) b.r (test b.r now.moment.state) refl (looks b.r b.is b.state (compared_at differs compare h b).before) more)
          ∙ shifted_more k (latest test (left - hits) (drop (k + 1) h.history) b.r.before)
          ∙ ap (λ (x : State). shifted (k + 1) (latest test (left - hits) (drop (k + 1) h.history) x)) (sym b.state);
    }
      where
        now_seen : (d : Bool) → Compares new.watches seen now.moment.state new.moment.state d → (if d then bytes_at new.watches new.moment.state else seen) ≡ bytes_at new.watches new.moment.state
        now_seen true c = refl
        now_seen false c = c.same refl

        one_less : (g : List Record) (r : Record) (hit : Bool) → test r now.moment.state ≡ hit → hits ≡ (if test r now.moment.state then 1 else 0) → left - hits ≢ 0 → latest test left (r ∷ g) now.moment.state ≡ option_map suc (latest test (left - hits) g r.before)
        one_less g r true is h more =
            let n : hits ≡ 1 = h ∙ ap (λ (b : Bool). if b then 1 else 0) is in
            let several : (left == 1) ≡ false = grind (arith, nat_tests) in
            latest_next test left g r now.moment.state is several ∙ ap (λ (m : ℕ). option_map suc (latest test (left - m) g r.before)) (sym n)
        one_less g r false is h more =
            let n : hits ≡ 0 = h ∙ ap (λ (b : Bool). if b then 1 else 0) is in
            let all : left ≡ left - hits = omega arith in
            latest_miss test left g r now.moment.state is ∙ ap (λ (m : ℕ). option_map suc (latest test m g r.before)) all

    -- the last one of those that are sought
    pub seeking_found : (hits : ℕ) (differs : Bool) → CompareSeen differs → Looks differs hits → left - hits ≡ 0 → (h : Track) → HasPast holds old h → k < length h.history → GoesBackTo holds test n h old new (record { moves = k + 1; is_there = true })
    seeking_found hits differs compare looks last h past lt =
        let one = i.some in
        let b = back_at h past lt in
        let hit = is_hit (test b.r now.moment.state) (looks b.r b.is b.state (compared_at differs compare h b).before) in
        let found : latest test n h.history old.moment.state ≡ Some (k + 1) =
        i.rest h past (omega arith)
        ∙ ap (λ (g : List Record). shifted k (latest test left g now.moment.state)) b.front
        ∙ ap (λ (m : ℕ). shifted k (latest test m (b.r ∷ drop (k + 1) h.history) now.moment.state)) hit.1
        ∙ ap (shifted k) (latest_hit test (drop (k + 1) h.history) b.r now.moment.state hit.0) in
        record { moves = rw found refl; is_there = rw found refl; stands = b.stands }
      where
        is_hit : (b : Bool) → hits ≡ (if b then 1 else 0) → (b ≡ true) × (left ≡ 1)
        is_hit true e = let one = i.some in (refl, omega (arith, e, last))
        is_hit false e = let one = i.some in absurd (omega (arith, e, last))

    -- there is a move to be taken back
    pub seeking_on : taken ≡ None → (h : Track) → HasPast holds old h → k < length h.history → ⊥
    seeking_on none h past lt = let b = back_at h past lt in let e : None ≡ Some (taken_of b.r) = sym none ∙ b.is in cc

  -- all moves are taken back
  pub seeking_end : (seen : List ℕ) (left k : ℕ) → Seeking holds refusals room test n old now seen left k → (h : Track) → HasPast holds old h → k ≡ length h.history → GoesBackTo holds test n h old now (record { moves = k; is_there = false })
  seeking_end seen left k i h past all =
      let none : latest test n h.history old.moment.state ≡ None =
      i.rest h past (omega (arith, all))
      ∙ ap (λ (m : ℕ). shifted k (latest test left (drop m h.history) now.moment.state)) all
      ∙ ap (λ (g : List Record). shifted k (latest test left g now.moment.state)) (drop_all h.history) in
      record { moves = rw none all; is_there = rw none refl; stands = i.stands h past (omega (arith, all)) }

-- what `reverse-continue` comes to
continued : {K : Type 0} (s : SessionValue K) (h : Track) (found : Found) (broken : Bool) (o : Option ℕ) → latest (passes Continue (point_of s h)) 1 h.history s.moment.state ≡ o → found.moves ≡ unwrap_or o (length h.history) → found.is_there ≡ is_some o → broken ≡ breaks_at (point_of s h) (before_last found.moves (point_of s h)) → back Continue (point_of s h) ≡ gone_back found.moves (if found.is_there then (if broken then Why.Break else Why.Watch) else Why.Start) (point_of s h)
continued s h found broken None l moves there here =
    ap (λ (o : Option ℕ). to_stop o (point_of s h)) l
    ∙ ap (λ (b : Bool). gone_back (length h.history) (if b then (if broken then Why.Break else Why.Watch) else Why.Start) (point_of s h)) (sym there)
    ∙ ap (λ (n : ℕ). gone_back n (if found.is_there then (if broken then Why.Break else Why.Watch) else Why.Start) (point_of s h)) (sym moves)
continued s h found broken (Some k) l moves there here =
    ap (λ (o : Option ℕ). to_stop o (point_of s h)) l
    ∙ ap (λ (n : ℕ). gone_back n (if breaks_at (point_of s h) (before_last n (point_of s h)) then Why.Break else Why.Watch) (point_of s h)) (sym moves)
    ∙ ap (λ (b : Bool). gone_back found.moves (if b then Why.Break else Why.Watch) (point_of s h)) (sym here)
    ∙ ap (λ (b : Bool). gone_back found.moves (if b then (if broken then Why.Break else Why.Watch) else Why.Start) (point_of s h)) (sym there)

-- what each backward command comes to
comes_back : {K : Type 0} (target : Target) (s : SessionValue K) (h : Track) (found : Found) (broken : Bool) → found.moves ≡ unwrap_or (latest (passes target (point_of s h)) (count_in target (point_of s h)) h.history s.moment.state) (length h.history) → found.is_there ≡ is_some (latest (passes target (point_of s h)) (count_in target (point_of s h)) h.history s.moment.state) → broken ≡ breaks_at (point_of s h) (before_last found.moves (point_of s h)) → back target (point_of s h) ≡ gone_back found.moves (why_found target (count_in target (point_of s h)) found.is_there broken) (point_of s h)
comes_back (Commands asked) s h found broken moves there here = ap (λ (k : ℕ). gone_back k Why.Done (point_of s h)) (sym moves)
comes_back (Steps asked) s h found broken moves there here =
    ap (λ (k : ℕ). gone_back k (if nat_le asked (kept_steps (point_of s h)) then Why.Done else Why.Start) (point_of s h)) (sym moves)
    ∙ ap (λ (b : Bool). gone_back found.moves (if b then Why.Done else Why.Start) (point_of s h)) (as_many asked (kept_steps (point_of s h)))
  where
    as_many : (n k : ℕ) → nat_le n k ≡ (min n k == n)
    as_many n k = grind (arith, nat_tests)
comes_back Next s h found broken moves there here =
    ap (λ (k : ℕ). gone_back k (if is_some (latest (passes Next (point_of s h)) 1 h.history s.moment.state) then Why.Done else Why.Start) (point_of s h)) (sym moves)
    ∙ ap (λ (b : Bool). gone_back found.moves (if b then Why.Done else Why.Start) (point_of s h)) (sym there)
comes_back Continue s h found broken moves there here = continued s h found broken (latest (passes Continue (point_of s h)) 1 h.history s.moment.state) refl moves there here
comes_back Finish s h found broken moves there here =
    ap (λ (k : ℕ). gone_back k (if is_some (latest (passes Finish (point_of s h)) 1 h.history s.moment.state) then Why.Done else Why.Start) (point_of s h)) (sym moves)
    ∙ ap (λ (b : Bool). gone_back found.moves (if b then Why.Done else Why.Start) (point_of s h)) (sym there)

module _ {K : Type 0} (holds : K → List Kept → Type 0) (refusals room : K → ℕ) (old new : SessionValue K) where
  pub back_obeys : (target : Target) (count : ℕ) (found : Found) → ((h : Track) → HasPast holds old h → count ≡ count_in target (point_of old h)) → ((h : Track) → HasPast holds old h → GoesBackTo holds (passes target (point_of old h)) count h old new found) → refusals new.moment.keeper ≡ refusals old.moment.keeper → bounds_of room new ≡ bounds_of room old
      → Obeys holds refusals room old new (λ _. back target) (Ok (Back found.moves (why_found target count found.is_there (has new.breaks new.moment.state.pc))))
  back_obeys target count found counted went same bounds = record {
    answered = λ h past. ap (λ (o : Outcome). o.answer) (sym (is h past));
    stands = λ h past. subst (λ (o : Outcome). StandsAt holds new o.point) (sym (is h past)) (went h past).stands;
    counted = same;
    bounds = bounds;
    there = tt;
  }
    where
      is : (h : Track) → HasPast holds old h → back target (point_of old h) ≡ gone_back found.moves (why_found target count found.is_there (has new.breaks new.moment.state.pc)) (point_of old h)
      is h past =
          let n = counted h past in
          let b = subst (λ (m : ℕ). GoesBackTo holds (passes target (point_of old h)) m h old new found) n (went h past) in
          comes_back target old h found (has new.breaks new.moment.state.pc) b.moves b.is_there (ap (λ (p : Point). has p.breaks p.state.pc) b.stands.0)
          ∙ ap (λ (m : ℕ). gone_back found.moves (why_found target m found.is_there (has new.breaks new.moment.state.pc)) (point_of old h)) (sym n)
