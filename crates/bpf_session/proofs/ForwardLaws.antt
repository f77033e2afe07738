-- The laws of going forward: a command stops at the first step after which something stops it.
use Rattle.std.proofs.Common.{◌≡◌, ◌+◌, ◌-◌, ◌<◌, ◌≤◌, ℕ, zero, suc, Bool, true, false, List, [], ◌∷◌, Option, Some, None, Ok, is_some, unwrap_or, refl, sym, ap, subst, ◌∙◌, arith, inl, inr}
use Rattle.std.specs.Prelude.{if◌then◌else◌, nat_lt, nat_le, ◌==◌, ◌⊎◌}
use Rattle.std.proofs.lemmas.Bool.Decides.{nat_tests}
use Rattle.bpf_steps.specs.State.{depth}
use Rattle.bpf_entries.specs.Status.{has_ended}
use Rattle.bpf_session.specs.Points.{Point, Bounds}
use Rattle.bpf_session.specs.Outcomes.{Outcome, refused, unless_refused}
use Rattle.bpf_session.specs.Stops.{breaks_at, watch_differs}
use Rattle.bpf_ring.specs.Runs.{state_after}
use Rattle.bpf_session.specs.Forward.{is_done, stop, least, steps, reason, taken, cut, forward}
use Rattle.bpf_session.specs.Redo.{again, cut_again, redone, why_again}
use Rattle.bpf_session.specs.Refused.{refusals_of}
use Rattle.bpf_session.specs.Meaning.{accepted, does}
use Rattle.bpf_session.specs.Laws.{IsDone, IsReason, rank, StopsFirst, TheFirstReasonStops, BreakpointsStop, WatchesStop, CallsRunAsOne}
use Rattle.bpfdb_script.specs.declared.command.Command.{Command}
use Rattle.bpfdb_script.specs.declared.command.Command.TheVariants as command
use Rattle.bpfdb_script.specs.declared.command.Target.{Target}
use Rattle.bpfdb_script.specs.declared.command.Target.TheVariants as target
use Rattle.bpf_session.specs.Backward.{back, found, to_stop}
use Rattle.bpfdb_script.specs.declared.command.Goal.{Goal}
use Rattle.bpfdb_script.specs.declared.command.Goal.TheVariants as goal
use Rattle.bpf_session.specs.declared.reply.Reply.{Reply}
use Rattle.bpf_session.specs.declared.reply.Reply.TheVariants.{Forward}
use Rattle.bpfdb_script.specs.declared.why.Why.{Why}
use Rattle.bpfdb_script.specs.declared.why.Why.TheVariants.{End, Break, Watch, Done, Limit, Memory, Start, All}
use Rattle.bpfdb_script.specs.declared.refusal.Refusal.{Refusal}
use Rattle.bpfdb_script.specs.declared.refusal.Refusal.TheVariants.{OutOfMemory}

-- ---- the first reason of several

-- the first of five, and each of them
abbrev pick : Bool → Bool → Bool → Bool → Bool → Option Why
pick ended broken watched done most =
    if ended then Some End else if broken then Some Break else if watched then Some Watch else if done then Some Done else if most then Some Limit else None

abbrev one_of : Why → Bool → Bool → Bool → Bool → Bool → Bool
one_of End ended broken watched done most = ended
one_of Break ended broken watched done most = broken
one_of Watch ended broken watched done most = watched
one_of Done ended broken watched done most = done
one_of Limit ended broken watched done most = most
one_of _ ended broken watched done most = false

abbrev rank_of : Option Why → ℕ
rank_of None = 7
rank_of (Some why) = rank why

pick-holds : (e b w d m : Bool) (why : Why) → pick e b w d m ≡ Some why → one_of why e b w d m ≡ true
pick-holds true b w d m why is = let s : End ≡ why = cc in subst (λ z. one_of z true b w d m ≡ true) s refl
pick-holds false true w d m why is = let s : Break ≡ why = cc in subst (λ z. one_of z false true w d m ≡ true) s refl
pick-holds false false true d m why is = let s : Watch ≡ why = cc in subst (λ z. one_of z false false true d m ≡ true) s refl
pick-holds false false false true m why is = let s : Done ≡ why = cc in subst (λ z. one_of z false false false true m ≡ true) s refl
pick-holds false false false false true why is = let s : Limit ≡ why = cc in subst (λ z. one_of z false false false false true ≡ true) s refl
pick-holds false false false false false why is = absurd cc

pick-first : (why : Why) (e b w d m : Bool) → one_of why e b w d m ≡ true → rank_of (pick e b w d m) ≤ rank why
pick-first End true b w d m h = omega arith
pick-first End false b w d m h = absurd cc
pick-first Break true b w d m h = omega arith
pick-first Break false true w d m h = omega arith
pick-first Break false false w d m h = absurd cc
pick-first Watch true b w d m h = omega arith
pick-first Watch false true w d m h = omega arith
pick-first Watch false false true d m h = omega arith
pick-first Watch false false false d m h = absurd cc
pick-first Done true b w d m h = omega arith
pick-first Done false true w d m h = omega arith
pick-first Done false false true d m h = omega arith
pick-first Done false false false true m h = omega arith
pick-first Done false false false false m h = absurd cc
pick-first Limit true b w d m h = omega arith
pick-first Limit false true w d m h = omega arith
pick-first Limit false false true d m h = omega arith
pick-first Limit false false false true m h = omega arith
pick-first Limit false false false false true h = omega arith
pick-first Limit false false false false false h = absurd cc
pick-first Memory e b w d m h = absurd cc
pick-first Start e b w d m h = absurd cc
pick-first All e b w d m h = absurd cc

rank-most : (why : Why) → rank why ≤ 6
rank-most End = omega arith
rank-most Break = omega arith
rank-most Watch = omega arith
rank-most Done = omega arith
rank-most Limit = omega arith
rank-most All = omega arith
rank-most Memory = omega arith
rank-most Start = omega arith

-- ---- the reasons of a step

at-most : (m n : ℕ) → nat_le m n ≡ true → m ≤ n
at-most m n h = grind (arith, nat_tests)

is-at-most : (m n : ℕ) → m ≤ n → nat_le m n ≡ true
is-at-most m n h = grind (arith, nat_tests)

below : (m n : ℕ) → nat_lt m n ≡ true → m < n
below m n h = grind (arith, nat_tests)

is-below : (m n : ℕ) → m < n → nat_lt m n ≡ true
is-below m n h = grind (arith, nat_tests)

same : (m n : ℕ) → (m == n) ≡ true → m ≡ n
same m n h = grind (arith, nat_tests)

is-same : (m n : ℕ) → m ≡ n → (m == n) ≡ true
is-same m n h = grind (arith, nat_tests)

done-is : (goal : Goal) (p : Point) (k : ℕ) → is_done goal (depth p.state) k (state_after k p.state) ≡ true → IsDone goal p k
done-is (goal.Steps count) p k h = same k count h
done-is goal.Next p k h = at-most _ _ h
done-is goal.Continue p k h = absurd cc
done-is goal.Finish p k h = below _ _ h

is-done : (goal : Goal) (p : Point) (k : ℕ) → IsDone goal p k → is_done goal (depth p.state) k (state_after k p.state) ≡ true
is-done (goal.Steps count) p k h = is-same k count h
is-done goal.Next p k h = is-at-most _ _ h
is-done goal.Continue p k h = absurd h
is-done goal.Finish p k h = is-below _ _ h

module _ (limit : ℕ) (goal : Goal) (p : Point) where
  -- whether one of them holds after a step, as the definition of a command tests it
  abbrev tested : Why → ℕ → Bool
  tested why k =
      one_of why (has_ended (state_after (suc k) p.state).status) (breaks_at p (state_after (suc k) p.state))
      (watch_differs p (state_after k p.state) (state_after (suc k) p.state)) (is_done goal (depth p.state) (suc k) (state_after (suc k) p.state)) (suc k == limit)

  one-back : (k : ℕ) → suc k - 1 ≡ k
  one-back k = omega arith

  tested-stops : (why : Why) (k : ℕ) → tested why k ≡ true → IsReason why limit goal p (suc k)
  tested-stops End k h = h
  tested-stops Break k h = h
  tested-stops Watch k h = ap (λ j. watch_differs p (state_after j p.state) (state_after (suc k) p.state)) (one-back k) ∙ h
  tested-stops Done k h = done-is goal p (suc k) h
  tested-stops Limit k h = same (suc k) limit h
  tested-stops Memory k h = absurd cc
  tested-stops Start k h = absurd cc
  tested-stops All k h = absurd cc

  stops-tested : (why : Why) (k : ℕ) → IsReason why limit goal p (suc k) → tested why k ≡ true
  stops-tested End k h = h
  stops-tested Break k h = h
  stops-tested Watch k h = ap (λ j. watch_differs p (state_after j p.state) (state_after (suc k) p.state)) (sym (one-back k)) ∙ h
  stops-tested Done k h = is-done goal p (suc k) h
  stops-tested Limit k h = is-same (suc k) limit h
  stops-tested Memory k h = absurd h
  stops-tested Start k h = absurd h
  stops-tested All k h = absurd h

  -- where a command goes on, nothing stops it; and where it stops, nothing before its reason does
  goes-on : (k : ℕ) → 1 ≤ k → stop limit goal p k ≡ None → (why : Why) → IsReason why limit goal p k → ⊥
  goes-on zero some none why h = omega (arith, some)
  goes-on (suc k) some none why h =
      let f = pick-first why _ _ _ _ _ (stops-tested why k h) in
      let r : rank_of (stop limit goal p (suc k)) ≡ 7 = ap rank_of none in
      let m = rank-most why in
      omega (arith, f, r, m)

  first-reason : (k : ℕ) (why : Why) → 1 ≤ k → stop limit goal p k ≡ Some why → (IsReason why limit goal p k) × ((other : Why) → rank other < rank why → IsReason other limit goal p k → ⊥)
  first-reason zero why some is = absurd (omega (arith, some))
  first-reason (suc k) why some is = (
    tested-stops why k (pick-holds _ _ _ _ _ why is),
    λ other less h.
        let f = pick-first other _ _ _ _ _ (stops-tested other k h) in
        let r : rank_of (stop limit goal p (suc k)) ≡ rank why = ap rank_of is in
        omega (arith, f, r, less),
  )

-- ---- the least number of steps

-- a number that passes differs from one that doesn't
differs : (test : ℕ → Bool) (k j : ℕ) → test k ≡ false → test j ≡ true → k ≡ j → ⊥
differs test k j off on same = let f : false ≡ true = sym off ∙ ap test same ∙ on in cc

-- the least number passes, where one of those that are tried does
least-passes : (test : ℕ → Bool) (k n j : ℕ) → k ≤ j → j < k + n → test j ≡ true → test (least test k n) ≡ true
least-passes test k zero j a b e = absurd (omega arith)
least-passes test k (suc n) j a b e = at (test k) refl (λ (c : k + 1 ≤ j). least-passes test (k + 1) n j c (omega arith) e)
  where
    at : (v : Bool) → test k ≡ v → (k + 1 ≤ j → test (least test (k + 1) n) ≡ true) → test (if v then k else least test (k + 1) n) ≡ true
    at true q rest = q
    at false q rest = rest (let d : k ≡ j → ⊥ = differs test k j q e in omega arith)

-- and none below it does
least-below : (test : ℕ → Bool) (k n j : ℕ) → k ≤ j → j < least test k n → test j ≡ false
least-below test k zero j a b = absurd (omega arith)
least-below test k (suc n) j a b = at (test k) refl b (λ (c : k + 1 ≤ j) (d : j < least test (k + 1) n). least-below test (k + 1) n j c d)
  where
    at : (v : Bool) → test k ≡ v → j < (if v then k else least test (k + 1) n) → (k + 1 ≤ j → j < least test (k + 1) n → test j ≡ false) → test j ≡ false
    at true q less rest = absurd (omega arith)
    at false q less rest = here (j == k) refl
      where
        here : (same : Bool) → (j == k) ≡ same → test j ≡ false
        here true s = let same : j ≡ k = grind (arith, nat_tests) in ap test same ∙ q
        here false s = let other : j ≡ k → ⊥ = λ same. grind (arith, nat_tests) in rest (omega arith) less

pub least-from : (test : ℕ → Bool) (k n : ℕ) → k ≤ least test k n
least-from test k zero = omega arith
least-from test k (suc n) = at (test k) (least-from test (k + 1) n)
  where
    at : (v : Bool) → k + 1 ≤ least test (k + 1) n → k ≤ (if v then k else least test (k + 1) n)
    at true rest = omega arith
    at false rest = omega arith

none-of : (o : Option Why) → is_some o ≡ false → o ≡ None
none-of None e = refl
none-of (Some why) e = absurd cc

some-of : (o : Option Why) → is_some o ≡ true → o ≡ Some (unwrap_or o Limit)
some-of None e = absurd cc
some-of (Some why) e = refl

module _ (limit : ℕ) (goal : Goal) (p : Point) where
  abbrev stops_at : ℕ → Bool
  stops_at k = is_some (stop limit goal p k)

  -- before its steps are taken nothing stops a command
  pub nothing-before : (j : ℕ) → 1 ≤ j → j < steps limit goal p → (why : Why) → IsReason why limit goal p j → ⊥
  nothing-before j some less why h = goes-on limit goal p j some (none-of _ (least-below stops_at 1 limit j some less)) why h

  -- the limit stops it at last
  stops-at-limit : (k : ℕ) → 1 ≤ k → k ≡ limit → stops_at k ≡ true
  stops-at-limit k some is = at (stop limit goal p k) refl
    where
      at : (o : Option Why) → stop limit goal p k ≡ o → stops_at k ≡ true
      at None e = absurd (goes-on limit goal p k some e Limit is)
      at (Some why) e = ap is_some e

  reason-is : 1 ≤ limit → stop limit goal p (steps limit goal p) ≡ Some (reason limit goal p)
  reason-is some = some-of _ (least-passes stops_at 1 limit limit some (omega arith) (stops-at-limit limit some refl))

-- ---- what an answer tells

pub unless-is : (rs : List Refusal) (p : Point) (o : Outcome) (r : Reply) → (unless_refused rs p o).answer ≡ Ok r → unless_refused rs p o ≡ o
unless-is [] p o r e = refl
unless-is (q ∷ rs) p o r e = absurd cc

-- all steps, or those before a refused move
cut-is : (gap : Option ℕ) (room n k : ℕ) (because why : Why) (p : Point) → (cut gap room n because p).answer ≡ Ok (Forward k why) → ((n ≡ k) × (because ≡ why)) ⊎ ((1 ≤ k) × (k < n) × (why ≡ Memory))
cut-is None room n k because why p e = inl (let s : n ≡ k = cc in s, let s : because ≡ why = cc in s)
cut-is (Some m) room n k because why p e = test (nat_lt m n) refl (m == 0) refl e
  where
    test : (less : Bool) → nat_lt m n ≡ less → (first : Bool) → (m == 0) ≡ first → (if less then (if first then refused OutOfMemory p else taken room m Memory p) else taken room n because p).answer ≡ Ok (Forward k why) → ((n ≡ k) × (because ≡ why)) ⊎ ((1 ≤ k) × (k < n) × (why ≡ Memory))
    test true l true f e = absurd cc
    test true l false f e =
        let s : m ≡ k = cc in
        let w : Memory ≡ why = cc in
        let t : 1 ≤ m = grind (arith, nat_tests) in
        let u : m < n = below m n l in
        inr (omega (arith, s, t), omega (arith, s, u), sym w)
    test false l first f e = inl (let s : n ≡ k = cc in s, let s : because ≡ why = cc in s)

pub answered : (gap : Option ℕ) (b : Bounds) (goal : Goal) (p : Point) (k : ℕ) (why : Why) → (does gap b (command.Forward goal) p).answer ≡ Ok (Forward k why) → ((steps b.limit goal p ≡ k) × (reason b.limit goal p ≡ why)) ⊎ ((1 ≤ k) × (k < steps b.limit goal p) × (why ≡ Memory))
unfolding accepted
answered gap b goal p k why e =
    let u = unless-is (refusals_of (command.Forward goal) p) p (forward gap b goal p) (Forward k why) e in
    cut-is gap b.room (steps b.limit goal p) k (reason b.limit goal p) why p (ap (λ (o : Outcome). o.answer) (sym u) ∙ e)

-- no reason holds on the way
pub on-the-way : (gap : Option ℕ) (b : Bounds) (goal : Goal) (p : Point) (k : ℕ) (why : Why) → (does gap b (command.Forward goal) p).answer ≡ Ok (Forward k why) → (j : ℕ) (other : Why) → 1 ≤ j → j < k → IsReason other b.limit goal p j → ⊥
on-the-way gap b goal p k why e = at (answered gap b goal p k why e)
  where
    at : ((steps b.limit goal p ≡ k) × (reason b.limit goal p ≡ why)) ⊎ ((1 ≤ k) × (k < steps b.limit goal p) × (why ≡ Memory)) → (j : ℕ) (other : Why) → 1 ≤ j → j < k → IsReason other b.limit goal p j → ⊥
    at (inl w) j other some less h = let s = w.0 in nothing-before b.limit goal p j some (omega (arith, less, s)) other h
    at (inr w) j other some less h = let s = w.1 in nothing-before b.limit goal p j some (omega (arith, less, s)) other h

pub the-first-reason-stops : TheFirstReasonStops
the-first-reason-stops gap b goal p k why most e = at (answered gap b goal p k why e)
  where
    at : ((steps b.limit goal p ≡ k) × (reason b.limit goal p ≡ why)) ⊎ ((1 ≤ k) × (k < steps b.limit goal p) × (why ≡ Memory)) → StopsFirst b.limit goal p k why
    at (inl w) =
        let s = w.0 in
        let one = least-from (stops_at b.limit goal p) 1 b.limit in
        let some : 1 ≤ k = omega (arith, s, one) in
        let f = first-reason b.limit goal p k why some (ap (stop b.limit goal p) (sym s) ∙ reason-is b.limit goal p most ∙ ap Some w.1) in
        record {
          some = some;
          holds = λ other. f.0;
          first = f.1;
          never = on-the-way gap b goal p k why e;
        }
    at (inr w) = record {
      some = w.0;
      holds = λ other. absurd (other w.2);
      first = λ other less. nothing-before b.limit goal p k w.0 w.1 other;
      never = on-the-way gap b goal p k why e;
    }

-- a command that goes forward has a goal
back-only : (t : Target) (p : Point) (k : ℕ) (why : Why) → (back t p).answer ≡ Ok (Forward k why) → ⊥
back-only (target.Commands count) p k why e = cc
back-only (target.Steps count) p k why e = cc
back-only target.Next p k why e = cc
back-only target.Continue p k why e = at (found target.Continue 1 p) e
  where
    at : (o : Option ℕ) → (to_stop o p).answer ≡ Ok (Forward k why) → ⊥
    at None e = cc
    at (Some n) e = cc
back-only target.Finish p k why e = cc

redo-only : (gap : Option ℕ) (n : ℕ) (because : Why) (p : Point) (k : ℕ) (why : Why) → (cut_again gap n because p).answer ≡ Ok (Forward k why) → ⊥
redo-only None n because p k why e = cc
redo-only (Some m) n because p k why e = at (nat_lt m n) (m == 0) e
  where
    at : (less first : Bool) → (if less then (if first then refused OutOfMemory p else redone m Memory p) else redone n because p).answer ≡ Ok (Forward k why) → ⊥
    at true true e = cc
    at true false e = cc
    at false first e = cc

goal-of : (gap : Option ℕ) (b : Bounds) (c : Command) (p : Point) (k : ℕ) (why : Why) → (accepted gap b c p).answer ≡ Ok (Forward k why) → (goal : Goal) × (c ≡ command.Forward goal)
unfolding accepted
goal-of gap b (command.Forward goal) p k why e = (goal, refl)
goal-of gap b (command.Back t) p k why e = absurd (back-only t p k why e)
goal-of gap b (command.Redo count) p k why e = absurd (redo-only gap (again count p) (why_again count p) p k why e)
goal-of None b (command.Edit change) p k why e = absurd cc
goal-of (Some m) b (command.Edit change) p k why e = absurd cc
goal-of gap b (command.Add stop) p k why e = absurd cc
goal-of gap b (command.Remove stop) p k why e = absurd cc
goal-of gap b (command.Show view) p k why e = absurd cc
goal-of gap b command.Quit p k why e = absurd cc

pub goal-told : (gap : Option ℕ) (b : Bounds) (c : Command) (p : Point) (k : ℕ) (why : Why) → (does gap b c p).answer ≡ Ok (Forward k why) → (goal : Goal) × (c ≡ command.Forward goal)
goal-told gap b c p k why e =
    let u = unless-is (refusals_of c p) p (accepted gap b c p) (Forward k why) e in
    goal-of gap b c p k why (ap (λ (o : Outcome). o.answer) (sym u) ∙ e)

pub does-forward : (gap : Option ℕ) (b : Bounds) (c : Command) (p : Point) (k : ℕ) (why : Why) → (does gap b c p).answer ≡ Ok (Forward k why) → (goal : Goal) × (does gap b c p ≡ forward gap b goal p)
unfolding accepted
does-forward gap b c p k why e =
    let u = unless-is (refusals_of c p) p (accepted gap b c p) (Forward k why) e in
    let g = goal-told gap b c p k why e in
    (g.0, u ∙ ap (λ (d : Command). accepted gap b d p) g.1)

not-true : (v : Bool) → (v ≡ true → ⊥) → v ≡ false
not-true true never = absurd (never refl)
not-true false never = refl

pub breakpoints-stop : BreakpointsStop
breakpoints-stop gap b c p k why e j some less =
    let g = goal-told gap b c p k why e in
    not-true _ (on-the-way gap b g.0 p k why (subst (λ (d : Command). (does gap b d p).answer ≡ Ok (Forward k why)) g.1 e) j Break some less)

pub watches-stop : WatchesStop
watches-stop gap b c p k why e j less =
    let g = goal-told gap b c p k why e in
    let back : suc j - 1 ≡ j = omega arith in
    not-true _ (λ h. on-the-way gap b g.0 p k why (subst (λ (d : Command). (does gap b d p).answer ≡ Ok (Forward k why)) g.1 e) (suc j) Watch (omega arith) less (ap (λ i. watch_differs p (state_after i p.state) (state_after (suc j) p.state)) back ∙ h))

-- ---- called functions

pub calls-run-as-one : CallsRunAsOne
calls-run-as-one gap b p k why most = (
  λ e. (
    λ done. subst (λ (w : Why). IsReason w b.limit goal.Next p k) done ((the-first-reason-stops gap b goal.Next p k why most e).holds (λ no_room. let s : Done ≡ Memory = sym done ∙ no_room in cc)),
    λ j some less. deeper _ _ (on-the-way gap b goal.Next p k why e j Done some less),
  ),
  λ e. (
    λ done. subst (λ (w : Why). IsReason w b.limit goal.Finish p k) done ((the-first-reason-stops gap b goal.Finish p k why most e).holds (λ no_room. let s : Done ≡ Memory = sym done ∙ no_room in cc)),
    λ j less. no-shallower j less (on-the-way gap b goal.Finish p k why e),
  ),
)
  where
    deeper : (m n : ℕ) → (m ≤ n → ⊥) → n < m
    deeper m n no_more = omega arith

    no-shallower : (j : ℕ) → j < k → ((j : ℕ) (other : Why) → 1 ≤ j → j < k → IsReason other b.limit goal.Finish p j → ⊥) → depth p.state ≤ depth (state_after j p.state)
    no-shallower zero less none_holds = omega arith
    no-shallower (suc j) less none_holds = at-least _ _ (none_holds (suc j) Done (omega arith) less)
      where
        at-least : (m n : ℕ) → (m < n → ⊥) → n ≤ m
        at-least m n no_less = omega arith
