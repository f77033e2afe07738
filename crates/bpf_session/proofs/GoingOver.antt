-- Moves that a backward command goes over at once.
use Rattle.std.specs.Prelude.{◌⊎◌, IfSome, if◌then◌else◌, nat_le, nat_lt, slice_index}
use Rattle.std.specs.Option.{option_map}
use Rattle.std.proofs.Common.{◌≡◌, ◌+◌, ◌-◌, ◌%◌, ◌<◌, ◌≤◌, ◌==◌, ◌&&◌, ◌||◌, ℕ, zero, suc, Bool, true, false, List, [], ◌∷◌, Option, Some, None, length, drop, take, reverse, ◌++◌, refl, sym, ap, subst, ◌∙◌, arith, inl, inr}
use Rattle.std.proofs.lemmas.Bool.{cases_lt}
use Rattle.std.proofs.lemmas.Bool.Decides.{nat_tests}
use Rattle.std.proofs.lemmas.List.{drop_all}
use Rattle.bpf_entries.specs.Before.{byte_in}
use Rattle.bpf_entries.specs.Keeping.{Kept}
use Rattle.bpf_entries.specs.Past.{Run, is_of_step, past, replaced}
use Rattle.bpf_journal.proofs.Histories.{of_move}
use Rattle.bpf_journal.proofs.Telling.{level_by, tells_before}
use Rattle.bpf_journal.specs.GoingBack.{GoesBackBy}
use Rattle.bpf_journal.specs.Histories.{IsRun, Record, is_step, kept_of}
use Rattle.bpf_journal.specs.Lookups.{Test, latest, state_before}
use Rattle.bpf_journal.specs.Tracks.{CourseValue, Follows, Track, track_of}
use Rattle.bpf_steps.specs.declared.change.Change.{Change}
use Rattle.bpf_steps.specs.declared.change.Change.TheVariants as change
use Rattle.bpf_machine.specs.declared.moves.Move.{Move}
use Rattle.bpf_machine.specs.declared.moves.Move.TheVariants as move
use Rattle.bpf_steps.specs.Entries.{entry_of}
use Rattle.bpf_machine.specs.Moves.{Leads, overwritten}
use Rattle.bpf_steps.specs.Next.{change as change_of}
use Rattle.bpf_steps.specs.Kept.{is_marked}
use Rattle.bpf_steps.specs.ByAddress.{byte}
use Rattle.bpf_steps.specs.State.{State, depth}
use Rattle.bpf_ring.specs.Ways.{HasLeft, IsPlain}
use Rattle.bpf_ring.specs.declared.backward.Stays.{Stays}
use Rattle.bpf_ring.specs.declared.backward.Stays.TheVariants.{Nothing, Depth, Bytes}
use Rattle.bpf_session.specs.Backward.{back_by, before_last, passes}
use Rattle.bpf_session.specs.Points.{Point}
use Rattle.bpf_session.specs.Searches.{GoAtOnce, GoesOver, is_each}
use Rattle.bpf_session.specs.Sessions.{HasPast, SessionValue, point_of, track_at}
use Rattle.bpf_session.specs.SlotTables.{IsTableOf}
use Rattle.bpf_session.specs.Stops.{has, some_differs}
use Rattle.bpf_session.specs.Watched.{LeavesWatched, bytes_at}
use Rattle.bpf_session.proofs.Backwards.{Seeking, latest_miss, latest_next, passes_same, put_in_front, record_at, shifted}
use Rattle.bpf_session.proofs.Breaks.{not_there}
use Rattle.bpf_session.proofs.Forwards.{OnlyMoment}
use Rattle.bpf_session.proofs.Watching.{some_same}
use Rattle.bpfdb_script.specs.declared.command.Target.{Target}
use Rattle.bpfdb_script.specs.declared.command.Target.TheVariants.{Commands, Steps, Next, Continue, Finish}

-- The slot that the entry of a step keeps is that of its state.
slot_by : (f : ℕ → Bool) (b : Bool) (x : State) (d : Change) → option_map f (past 0 (entry_of x d)).pc ≡ Some b → f x.pc ≡ b
unfolding entry_of
slot_by f b x (change.Set r value after) is = cc
slot_by f b x (change.Go after) is = cc
slot_by f b x (change.Store a at size value after) is = cc
slot_by f b x (change.Fetch a at size value r after) is = cc
slot_by f b x (change.Call to) is = cc
slot_by f b x change.Return is = cc
slot_by f b x (change.Cell a from n after) is = cc
slot_by f b x (change.Trace word after) is = cc
slot_by f b x (change.Stop status) is = absurd cc

plain_slot : (marks : List Bool) (x : State) (m : Move) → is_of_step (overwritten x m) ≡ true → option_map (is_marked marks) (past 0 (overwritten x m)).pc ≡ Some false → is_marked marks x.pc ≡ false
plain_slot marks x move.Step step slot = slot_by (is_marked marks) false x (change_of x) slot
plain_slot marks x (move.Edit e) step slot = let no = sym (of_move x (move.Edit e)) ∙ step in absurd cc

-- What a command looks for isn't among moves that it goes over at once, or each of them is.
neither : (a b c : Bool) → b ≡ false → c ≡ false → (a && (b || c)) ≡ false
neither true b c e f = rw (e, f) refl
neither false b c e f = refl

not_both : (a b : Bool) → b ≡ false → (a && b) ≡ false
not_both true b e = e
not_both false b e = refl

-- Moves that left the depth as it was.
kept_level : (r : Record) (z : State) (stays : Stays) → stays ≡ Depth → HasLeft stays (overwritten r.before r.move) → Leads r.before r.move z → depth r.before ≡ depth z
kept_level r z stays is left leads =
    (tells_before r.before z r.move leads).depths
    ∙ level_by (depth z) (overwritten r.before r.move) (subst (λ (s : Stays). HasLeft s (overwritten r.before r.move)) is left)

deeper : (a b : ℕ) → b < a → nat_le a b ≡ false
deeper a b more = grind (arith, nat_tests)

as_deep : (a b : ℕ) → b ≤ a → nat_lt a b ≡ false
as_deep a b more = grind (arith, nat_tests)

-- A byte outside of what a move replaced is as it was.
byte_outside : (o : Option Run) (a other : ℕ) → IfSome o (λ run. (a < run.address) ⊎ (run.address + length run.bytes ≤ a)) → byte_in o a other ≡ other
byte_outside None a other out = refl
byte_outside (Some run) a other out =
    let off : (nat_le run.address a && nat_lt a (run.address + length run.bytes)) ≡ false = elim out [ inl below ↦ grind (arith, nat_tests, below) | inr above ↦ grind (arith, nat_tests, above) ] in
    ap (λ (b : Bool). if b then slice_index run.bytes (a - run.address) else other) off

-- So moves that left what they are to have left changed no watched byte.
unseen : (r : Record) (z : State) → Leads r.before r.move z → (watched : Stays) (watches : List ℕ) → LeavesWatched watches watched → HasLeft watched (overwritten r.before r.move) → some_differs watches r.before z ≡ false
unseen r z leads Nothing watches none left = ap (λ (ws : List ℕ). some_differs ws r.before z) none
unseen r z leads Depth watches none left = absurd none
unseen r z leads (Bytes guard) watches all left =
    some_same watches guard r.before z all (λ a from to.
    (tells_before r.before z r.move leads).bytes a ∙ byte_outside (replaced (depth z) (overwritten r.before r.move)) a (byte z a) (left (depth z) a from to))

pub each_alike : (target : Target) (first : State) (breaks watches : List ℕ) (marks : List Bool) (watched : Stays) (now : ℕ) (stays : Stays) → IsTableOf breaks marks → LeavesWatched watches watched
    → GoAtOnce target watched (depth first) now stays
    → (r : Record) (z : State) → IsPlain marks stays (kept_of r) → Leads r.before r.move z → (stays ≡ Depth → depth z ≡ now)
    → passes target (record { history = []; ahead = []; state = first; breaks = breaks; watches = watches }) r z ≡ is_each target
each_alike (Commands count) first breaks watches marks watched now stays table none may r z plain leads level = plain.unmarked
each_alike (Steps count) first breaks watches marks watched now stays table none may r z plain leads level = sym (of_move r.before r.move) ∙ plain.step
each_alike Continue first breaks watches marks watched now stays table none may r z plain leads level =
    neither (is_step r.move) (has breaks r.before.pc) (some_differs watches r.before z)
    (sym (not_there breaks marks r.before.pc (r.before.pc % 8192) table refl (omega arith) (plain_slot marks r.before r.move plain.step plain.slot)))
    (unseen r z leads watched watches none (subst (λ (s : Stays). HasLeft s (overwritten r.before r.move)) may plain.spared))
each_alike Next first breaks watches marks watched now stays table none may r z plain leads level =
    let at : depth r.before ≡ now = kept_level r z stays may.0 plain.spared leads ∙ level may.0 in
    not_both (is_step r.move) (nat_le (depth r.before) (depth first)) (deeper (depth r.before) (depth first) (omega (arith, at, may.1)))
each_alike Finish first breaks watches marks watched now stays table none may r z plain leads level =
    let at : depth r.before ≡ now = kept_level r z stays may.0 plain.spared leads ∙ level may.0 in
    as_deep (depth r.before) (depth first) (omega (arith, at, may.1))

-- so many moves further back
shifted_none : (o : Option ℕ) → shifted 0 o ≡ o
shifted_none None = refl
shifted_none (Some n) = ap Some (let e : 0 + n ≡ n = omega arith in e)

shifted_suc : (n : ℕ) (o : Option ℕ) → option_map suc (shifted n o) ≡ shifted (suc n) o
shifted_suc n None = refl
shifted_suc n (Some k) = ap Some (let e : suc (n + k) ≡ suc n + k = omega arith in e)

shifted_both : (k n : ℕ) (o : Option ℕ) → shifted k (shifted n o) ≡ shifted (k + n) o
shifted_both k n None = refl
shifted_both k n (Some j) = ap Some (let e : k + (n + j) ≡ k + n + j = omega arith in e)

more_than_none : (j : ℕ) → nat_lt 0 (suc j) ≡ true
more_than_none j = grind (arith, nat_tests)

-- what is left to be found
abbrev pub fewer_by : Bool → ℕ → ℕ → ℕ
fewer_by each left n = left - (if each then n else 0)

module _ {K : Type 0} (holds : K → List Kept → Type 0) (test : Test) (each : Bool) (new : CourseValue K) (H ahead : List Record) (y0 : State) where
  -- where it stands behind t moves, k of which were gone over before
  record Far (k t n left : ℕ) (y : State) : Type 0 where
    pub state : new.state ≡ state_before t H y0
    pub past : Follows holds new (record { history = drop t H; ahead = reverse (take t H) ++ ahead })
    pub rest : latest test left (drop k H) y ≡ shifted n (latest test (fewer_by each left n) (drop t H) new.state)

  one_of : (n left : ℕ) (h : List Record) (r : Record) (y : State) (o : Option ℕ) → test r y ≡ each → (each ≡ true → suc n < left)
      → latest test (fewer_by each left 1) h r.before ≡ shifted n o → latest test left (r ∷ h) y ≡ shifted (suc n) o
  one_of n left h r y o is few rest = by each refl where
    by : (b : Bool) → each ≡ b → latest test left (r ∷ h) y ≡ shifted (suc n) o
    by true e =
        let more : suc n < left = few e in
        let several : (left == 1) ≡ false = grind (arith, nat_tests) in
        latest_next test left h r y (is ∙ e) several
        ∙ ap (option_map suc) (subst (λ (b : Bool). latest test (fewer_by b left 1) h r.before ≡ shifted n o) e rest)
        ∙ shifted_suc n o
    by false e =
        let all : left ≡ fewer_by false left 1 = omega arith in
        latest_miss test left h r y (is ∙ e)
        ∙ ap (λ (m : ℕ). option_map suc (latest test m h r.before)) all
        ∙ ap (option_map suc) (subst (λ (b : Bool). latest test (fewer_by b left 1) h r.before ≡ shifted n o) e rest)
        ∙ shifted_suc n o

  fewer_yet : (b : Bool) (left n : ℕ) → fewer_by b (fewer_by b left 1) n ≡ fewer_by b left (suc n)
  fewer_yet true left n = omega arith
  fewer_yet false left n = omega arith

  fewer_none : (b : Bool) (left : ℕ) → fewer_by b left 0 ≡ left
  fewer_none true left = omega arith
  fewer_none false left = omega arith

  few_left : (b : Bool) (left n : ℕ) → (b ≡ true → suc n < left) → b ≡ true → n < fewer_by b left 1
  few_left true left n few is = let more = few is in omega arith
  few_left false left n few is = absurd cc

  far : (marks : List Bool) (stays : Stays) (d n k t left : ℕ) (y : State) → (stays ≡ Depth → depth y ≡ d) → t ≡ k + n → y ≡ state_before k H y0 → IsRun (drop k H) y
      → GoesBackBy holds marks stays new n (drop k H) (reverse (take k H) ++ ahead) y
      → (1 ≤ n → (r : Record) (z : State) → IsPlain marks stays (kept_of r) → Leads r.before r.move z → (stays ≡ Depth → depth z ≡ d) → test r z ≡ each)
      → (each ≡ true → n < left) → Far k t n left y
  far marks stays d zero k t left y level is from run there alike few =
      let e : k ≡ t = omega (arith, is) in
      subst (λ (j : ℕ). Far k j 0 left y) e (record {
        state = there.0 ∙ from;
        past = there.1;
        rest =
            ap (λ (m : ℕ). latest test m (drop k H) y) (sym (fewer_none each left))
            ∙ ap (latest test (fewer_by each left 0) (drop k H)) (sym there.0)
            ∙ sym (shifted_none (latest test (fewer_by each left 0) (drop k H) new.state));
      })
  far marks stays d (suc n) k t left y level is from run there alike few = elim (cases_lt k (length H)) [
    | inl low ↦
        let a = record_at H k low in
        let tests = alike (omega arith) in
        let run_on : IsRun (a.found ∷ drop (suc k) H) y = subst (λ (g : List Record). IsRun g y) a.front run in
        let on : GoesBackBy holds marks stays new (suc n) (a.found ∷ drop (suc k) H) (reverse (take k H) ++ ahead) y =
        subst (λ (g : List Record). GoesBackBy holds marks stays new (suc n) g (reverse (take k H) ++ ahead) y) a.front there in
        let up : t ≡ suc k + n = omega (arith, is) in
        let f : Far (suc k) t n (fewer_by each left 1) a.found.before =
        far marks stays d n (suc k) t (fewer_by each left 1) a.found.before (λ is. kept_level a.found y stays is on.0.spared run_on.0 ∙ level is) up (sym (a.there y0)) run_on.1
        (subst (λ (g : List Record). GoesBackBy holds marks stays new n (drop (suc k) H) g a.found.before) (sym (put_in_front k H a.found ahead a.front)) on.1)
        (λ some. tests) (few_left each left n few) in
        record {
          state = f.state;
          past = f.past;
          rest =
              ap (λ (g : List Record). latest test left g y) a.front
              ∙ one_of n left (drop (suc k) H) a.found y (latest test (fewer_by each left (suc n)) (drop t H) new.state) (tests a.found y on.0 run_on.0 level) few
              (f.rest ∙ ap (λ (m : ℕ). shifted n (latest test m (drop t H) new.state)) (fewer_yet each left n));
        }
    | inr past ↦
        absurd (subst (λ (g : List Record). GoesBackBy holds marks stays new (suc n) g (reverse (take k H) ++ ahead) y) (drop_all k H past) there)
  ]

module _ {K : Type 0} (holds : K → List Kept → Type 0) (refusals room : K → ℕ) (test : Test) (m : ℕ) (old now new : SessionValue K) (seen seen' : List ℕ) (left k n : ℕ) (each : Bool)
    (i : Seeking holds refusals room test m old now seen left k) (only : OnlyMoment now new)
    (over : (g : Track) → HasPast holds now g → GoesOver holds test each n g.history g.ahead now.moment.state new.moment)
    (few : each ≡ true → n < left) where
  far_from : (h : Track) → HasPast holds old h → k + n ≤ length h.history
      → Far holds test each new.moment h.history h.ahead old.moment.state k (k + n) n left now.moment.state
  far_from h past le =
      let st = i.stands h past (omega (arith, le)) in
      let o = over (track_at (back_by k (point_of old h))) st.1 in
      far holds test each new.moment h.history h.ahead old.moment.state o.marks o.stays (depth now.moment.state) n k (k + n) left now.moment.state (λ is. refl) refl
      (ap (λ (p : Point). p.state) st.0) st.1.history.1 o.back o.each few

  -- so many more moves
  pub seeking_far : refusals new.moment.keeper ≡ refusals now.moment.keeper → room new.moment.keeper ≡ room now.moment.keeper
      → seen' ≡ (if nat_lt 0 n then bytes_at new.watches new.moment.state else seen)
      → Seeking holds refusals room test m old new seen' (fewer_by each left n) (k + n)
  seeking_far same room_same sees = record {
    only = record { breaks = only.breaks ∙ i.only.breaks; watches = only.watches ∙ i.only.watches; limit = only.limit ∙ i.only.limit };
    same = same ∙ i.same;
    room_same = room_same ∙ i.room_same;
    some = some_left each refl;
    saw = λ h past le. saw_then h past le n refl;
    stands = λ h past le.
        let f = far_from h past le in (
          ap (λ (x : State). record { history = drop (k + n) h.history; ahead = reverse (take (k + n) h.history) ++ h.ahead; state = x; breaks = new.breaks; watches = new.watches }) f.state
              ∙ ap (λ (bs : List ℕ). record { history = drop (k + n) h.history; ahead = reverse (take (k + n) h.history) ++ h.ahead; state = before_last (k + n) (point_of old h); breaks = bs; watches = new.watches }) (only.breaks ∙ i.only.breaks)
              ∙ ap (λ (ws : List ℕ). record { history = drop (k + n) h.history; ahead = reverse (take (k + n) h.history) ++ h.ahead; state = before_last (k + n) (point_of old h); breaks = old.breaks; watches = ws }) (only.watches ∙ i.only.watches),
          f.past,
        );
    rest = λ h past le.
        let f = far_from h past le in
        i.rest h past (omega (arith, le)) ∙ ap (shifted k) f.rest ∙ shifted_both k n (latest test (fewer_by each left n) (drop (k + n) h.history) new.moment.state);
  }
    where
      some_left : (b : Bool) → each ≡ b → 1 ≤ fewer_by each left n
      some_left true e = let f = few e in subst (λ (b : Bool). 1 ≤ fewer_by b left n) (sym e) (omega (arith, f))
      some_left false e = let s = i.some in subst (λ (b : Bool). 1 ≤ fewer_by b left n) (sym e) (omega (arith, s))

      saw_then : (h : Track) → HasPast holds old h → k + n ≤ length h.history → (j : ℕ) → n ≡ j → seen' ≡ bytes_at new.watches new.moment.state
      saw_then h past le zero none =
          let st = i.stands h past (omega (arith, le)) in
          let o = over (track_at (back_by k (point_of old h))) st.1 in
          let none_back : GoesBackBy holds o.marks o.stays new.moment 0 (drop k h.history) (reverse (take k h.history) ++ h.ahead) now.moment.state =
          subst (λ (j : ℕ). GoesBackBy holds o.marks o.stays new.moment j (drop k h.history) (reverse (take k h.history) ++ h.ahead) now.moment.state) none o.back in
          sees
          ∙ ap (λ (j : ℕ). if nat_lt 0 j then bytes_at new.watches new.moment.state else seen) none
          ∙ i.saw h past (omega (arith, le))
          ∙ ap (bytes_at now.watches) (sym none_back.0)
          ∙ ap (λ (ws : List ℕ). bytes_at ws new.moment.state) (sym only.watches)
      saw_then h past le (suc j) some =
          sees
          ∙ ap (λ (j : ℕ). if nat_lt 0 j then bytes_at new.watches new.moment.state else seen) some
          ∙ ap (λ (b : Bool). if b then bytes_at new.watches new.moment.state else seen) (more_than_none j)

-- what is gone over for a command from its beginning
pub over_for : {K : Type 0} (holds : K → List Kept → Type 0) (target : Target) (old now : SessionValue K) (n : ℕ) (h f : List Record) (y : State) (new : CourseValue K) → now.breaks ≡ old.breaks → now.watches ≡ old.watches
    → GoesOver holds (passes target (record { history = []; ahead = []; state = old.moment.state; breaks = now.breaks; watches = now.watches })) (is_each target) n h f y new
    → GoesOver holds (passes target (point_of old (track_of []))) (is_each target) n h f y new
over_for holds target old now n h f y new breaks watches o = record {
  marks = o.marks;
  stays = o.stays;
  back = o.back;
  each = λ some r z plain leads level. sym (passes_same target old.moment.state now.breaks old.breaks now.watches old.watches breaks watches r z) ∙ o.each some r z plain leads level;
}
