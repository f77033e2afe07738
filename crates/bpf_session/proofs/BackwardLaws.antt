-- The laws of commands that go back: how many moves are taken back, and which one is found.
use Rattle.std.proofs.Common.{◌≡◌, ◌+◌, ◌-◌, ◌<◌, ◌≤◌, ℕ, zero, suc, Bool, true, false, List, [], ◌∷◌, ◌++◌, reverse, Option, Some, None, Ok, length, is_some, unwrap_or, refl, sym, ap, subst, ◌∙◌, arith, inl, inr}
use Rattle.std.specs.Prelude.{if◌then◌else◌, nat_lt, nat_le, ◌==◌, ◌&&◌, ◌||◌, ◌⊎◌, ◌↔◌, min, count_by, cond, option_map, take, drop, slice_get}
use Rattle.std.proofs.lemmas.Bool.Decides.{nat_tests}
use Rattle.std.proofs.lemmas.List.Sums.{sum_by-cons}
use Rattle.bpf_steps.specs.State.{State, depth}
use Rattle.bpf_journal.specs.Histories.{Record, is_step}
use Rattle.bpf_journal.specs.Lookups.{Test, latest, state_before}
use Rattle.bpf_session.specs.Points.{Point, Bounds}
use Rattle.bpf_session.specs.Outcomes.{Outcome, unless_refused}
use Rattle.bpf_session.specs.Stops.{breaks_at}
use Rattle.bpf_session.specs.Backward.{back, back_by, before_last, found, gone_back, kept_steps, marks, passes, to_stop}
use Rattle.bpf_session.specs.Refused.{refusals_of, when}
use Rattle.bpf_session.specs.Meaning.{accepted, does}
use Rattle.bpf_session.specs.Laws.{HasCount, TakesBackItsMoves, CountsBack, CountsAreGoneBack, IsAt, FindsLatest, IsSought, TheLatestIsFound, UndoGoesToTheMark}
use Rattle.bpfdb_script.specs.declared.command.Command.TheVariants as command
use Rattle.bpfdb_script.specs.declared.command.Target.{Target}
use Rattle.bpfdb_script.specs.declared.command.Target.TheVariants as target
use Rattle.bpf_session.specs.declared.reply.Reply.{Reply}
use Rattle.bpf_session.specs.declared.reply.Reply.TheVariants.{Back}
use Rattle.bpfdb_script.specs.declared.why.Why.{Why}
use Rattle.bpfdb_script.specs.declared.why.Why.TheVariants.{Break, Watch, Done, Start}
use Rattle.bpfdb_script.specs.declared.refusal.Refusal.{Refusal}
use Rattle.bpfdb_script.specs.declared.refusal.Refusal.TheVariants.{NoKeptStep, FewerCommands, OutermostFrame}

-- ---- what is looked up in a history

-- the latest record that passes a test
record Latest (test : Test) (h : List Record) (y : State) (k : ℕ) : Type 0 where
  newer : ℕ
  far : k ≡ suc newer
  found : Record
  there : slice_get h newer ≡ Some found
  passes : test found (state_before newer h y) ≡ true
  others : (j : ℕ) (r : Record) → j < newer → slice_get h j ≡ Some r → test r (state_before j h y) ≡ false

-- none of the records up to one passes, where it doesn't and none behind it does
one-more : (test : Test) (r : Record) (h : List Record) (y : State) (n : ℕ) → test r y ≡ false → ((j : ℕ) (x : Record) → j < n → slice_get h j ≡ Some x → test x (state_before j h r.before) ≡ false) → (j : ℕ) (x : Record) → j < suc n → slice_get (r ∷ h) j ≡ Some x → test x (state_before j (r ∷ h) y) ≡ false
one-more test r h y n not others zero x less at = let s : r ≡ x = cc in subst (λ (z : Record). test z y ≡ false) s not
one-more test r h y n not others (suc j) x less at = others j x (omega (arith, less)) at

latest-is : (test : Test) (h : List Record) (y : State) (k : ℕ) → latest test 1 h y ≡ Some k → Latest test h y k
latest-is test [] y k e = absurd cc
latest-is test (r ∷ h) y k e = at (test r y) refl e (λ m f. latest-is test h r.before m f)
  where
    onward : (o : Option ℕ) → option_map suc o ≡ Some k → test r y ≡ false → ((m : ℕ) → o ≡ Some m → Latest test h r.before m) → Latest test (r ∷ h) y k
    onward None e not rest = absurd cc
    onward (Some m) e not rest =
        let l = rest m refl in
        let s : suc m ≡ k = cc in
        record {
          newer = suc l.newer;
          far = sym s ∙ ap suc l.far;
          found = l.found;
          there = l.there;
          passes = l.passes;
          others = one-more test r h y l.newer not l.others;
        }

    at : (v : Bool) → test r y ≡ v → (if v then Some 1 else option_map suc (latest test 1 h r.before)) ≡ Some k → ((m : ℕ) → latest test 1 h r.before ≡ Some m → Latest test h r.before m) → Latest test (r ∷ h) y k
    at true t e rest = record {
      newer = 0;
      far = let s : 1 ≡ k = cc in sym s;
      found = r;
      there = refl;
      passes = t;
      others = λ j x less there. absurd (omega (arith, less));
    }
    at false t e rest = onward (latest test 1 h r.before) e t rest

latest-none : (test : Test) (h : List Record) (y : State) → latest test 1 h y ≡ None → (j : ℕ) (x : Record) → slice_get h j ≡ Some x → test x (state_before j h y) ≡ false
latest-none test [] y e zero x there = absurd cc
latest-none test [] y e (suc j) x there = absurd cc
latest-none test (r ∷ h) y e j x there = at (test r y) refl e (latest-none test h r.before)
  where
    onward : (o : Option ℕ) → option_map suc o ≡ None → o ≡ None
    onward None e = refl
    onward (Some m) e = absurd cc

    at : (v : Bool) → test r y ≡ v → (if v then Some 1 else option_map suc (latest test 1 h r.before)) ≡ None → (latest test 1 h r.before ≡ None → (j : ℕ) (x : Record) → slice_get h j ≡ Some x → test x (state_before j h r.before) ≡ false) → test x (state_before j (r ∷ h) y) ≡ false
    at true t e rest = absurd cc
    at false t e rest = one-more test r h y j t (λ i z less. rest (onward (latest test 1 h r.before) e) i z) j x (omega arith) there

-- how far what is found lies back
latest-bounds : (test : Test) (n : ℕ) (h : List Record) (y : State) (k : ℕ) → latest test n h y ≡ Some k → (1 ≤ k) × (k ≤ length h)
latest-bounds test n [] y k e = absurd cc
latest-bounds test n (r ∷ h) y k e = at (test r y) (n == 1) e (latest-bounds test (n - 1) h r.before) (latest-bounds test n h r.before)
  where
    onward : (o : Option ℕ) → option_map suc o ≡ Some k → ((m : ℕ) → o ≡ Some m → (1 ≤ m) × (m ≤ length h)) → (1 ≤ k) × (k ≤ length (r ∷ h))
    onward None e rest = absurd cc
    onward (Some m) e rest = let s : suc m ≡ k = cc in let b = rest m refl in (omega (arith, s), omega (arith, s, b.1))

    at : (v one : Bool) → (if v then (if one then Some 1 else option_map suc (latest test (n - 1) h r.before)) else option_map suc (latest test n h r.before)) ≡ Some k → ((m : ℕ) → latest test (n - 1) h r.before ≡ Some m → (1 ≤ m) × (m ≤ length h)) → ((m : ℕ) → latest test n h r.before ≡ Some m → (1 ≤ m) × (m ≤ length h)) → (1 ≤ k) × (k ≤ length (r ∷ h))
    at true true e fewer same = let s : 1 ≡ k = cc in (omega (arith, s), omega (arith, s))
    at true false e fewer same = onward (latest test (n - 1) h r.before) e fewer
    at false one e fewer same = onward (latest test n h r.before) e same

-- the record of a move that is kept, and the state before it
record-at : (k : ℕ) (h : List Record) (y : State) → suc k ≤ length h → (r : Record) × (slice_get h k ≡ Some r) × (state_before (suc k) h y ≡ r.before)
record-at k [] y less = absurd (omega (arith, less))
record-at zero (r ∷ h) y less = (r, refl, refl)
record-at (suc k) (r ∷ h) y less = record-at k h r.before (omega (arith, less))

-- ---- how many moves pass a test of their records

pub count-more : (test : Record → Bool) (r : Record) (h : List Record) → count_by test (r ∷ h) ≡ cond (test r) 1 0 + count_by test h
count-more test r h = sum_by-cons (λ x. cond (test x) 1 0) r h

count-none : (test : Record → Bool) → count_by test [] ≡ 0
count-none test = refl

count-most : (test : Record → Bool) (h : List Record) → count_by test h ≤ length h
count-most test [] = omega (arith, count-none test)
count-most test (r ∷ h) = at (test r) (count-more test r h) (count-most test h)
  where
    at : (v : Bool) → count_by test (r ∷ h) ≡ cond v 1 0 + count_by test h → count_by test h ≤ length h → count_by test (r ∷ h) ≤ length (r ∷ h)
    at true e rest = let one : cond {A = ℕ} true 1 0 ≡ 1 = refl in omega (arith, e, rest, one)
    at false e rest = let no : cond {A = ℕ} false 1 0 ≡ 0 = refl in omega (arith, e, rest, no)

-- the n-th latest record that passes
record Nth (test : Record → Bool) (n : ℕ) (h : List Record) (y : State) : Type 0 where
  newer : ℕ
  found : Record
  far : latest (λ r x. test r) n h y ≡ Some (suc newer)
  there : slice_get h newer ≡ Some found
  back : state_before (suc newer) h y ≡ found.before
  is : test found ≡ true
  counted : count_by test (take (suc newer) h) ≡ n
  last : count_by test (take newer h) + 1 ≡ n

nth : (test : Record → Bool) (n : ℕ) (h : List Record) (y : State) → 1 ≤ n → n ≤ count_by test h → Nth test n h y
nth test n [] y some enough = absurd (omega (arith, count-none test, some, enough))
nth test n (r ∷ h) y some enough = at (test r) refl (n == 1) refl (λ m one more. nth test m h r.before one more)
  where
    at : (hit : Bool) → test r ≡ hit → (one : Bool) → (n == 1) ≡ one → ((m : ℕ) → 1 ≤ m → m ≤ count_by test h → Nth test m h r.before) → Nth test n (r ∷ h) y
    at true e true o rest =
        let first : n ≡ 1 = grind (arith, nat_tests) in
        let here : cond {A = ℕ} (test r) 1 0 ≡ 1 = ap (λ (b : Bool). cond {A = ℕ} b 1 0) e in
        let front = count-more test r [] in
        record {
          newer = 0;
          found = r;
          far = ap (λ (b : Bool). if b then (if n == 1 then Some 1 else option_map suc (latest (λ r x. test r) (n - 1) h r.before)) else option_map suc (latest (λ r x. test r) n h r.before)) e ∙ ap (λ (b : Bool). if b then Some 1 else option_map suc (latest (λ r x. test r) (n - 1) h r.before)) o;
          there = refl;
          back = refl;
          is = e;
          counted = omega (arith, first, front, here, count-none test);
          last = omega (arith, first, count-none test);
        }
    at true e false o rest =
        let several : n ≡ 1 → ⊥ = λ same. grind (arith, nat_tests) in
        let all = count-more test r h in
        let here : cond {A = ℕ} (test r) 1 0 ≡ 1 = ap (λ (b : Bool). cond {A = ℕ} b 1 0) e in
        let m = rest (n - 1) (omega arith) (omega (arith, all, here)) in
        let front = count-more test r (take (suc m.newer) h) in
        let most = count-more test r (take m.newer h) in
        record {
          newer = suc m.newer;
          found = m.found;
          far = ap (λ (b : Bool). if b then (if n == 1 then Some 1 else option_map suc (latest (λ r x. test r) (n - 1) h r.before)) else option_map suc (latest (λ r x. test r) n h r.before)) e ∙ ap (λ (b : Bool). if b then Some 1 else option_map suc (latest (λ r x. test r) (n - 1) h r.before)) o ∙ ap (option_map suc) m.far;
          there = m.there;
          back = m.back;
          is = m.is;
          counted = let all_but = m.counted in omega (arith, front, here, all_but);
          last = let all_but = m.last in omega (arith, most, here, all_but);
        }
    at false e o s rest =
        let all = count-more test r h in
        let here : cond {A = ℕ} (test r) 1 0 ≡ 0 = ap (λ (b : Bool). cond {A = ℕ} b 1 0) e in
        let m = rest n some (omega (arith, all, here)) in
        let front = count-more test r (take (suc m.newer) h) in
        let most = count-more test r (take m.newer h) in
        record {
          newer = suc m.newer;
          found = m.found;
          far = ap (λ (b : Bool). if b then (if n == 1 then Some 1 else option_map suc (latest (λ r x. test r) (n - 1) h r.before)) else option_map suc (latest (λ r x. test r) n h r.before)) e ∙ ap (option_map suc) m.far;
          there = m.there;
          back = m.back;
          is = m.is;
          counted = let all_but = m.counted in omega (arith, front, here, all_but);
          last = let all_but = m.last in omega (arith, most, here, all_but);
        }

-- ---- what an answer tells

unless-is : (rs : List Refusal) (p : Point) (o : Outcome) (r : Reply) → (unless_refused rs p o).answer ≡ Ok r → (rs ≡ []) × (unless_refused rs p o ≡ o)
unless-is [] p o r e = (refl, refl)
unless-is (q ∷ rs) p o r e = absurd cc

when-not : (test : Bool) (r : Refusal) → when test r ≡ [] → test ≡ false
when-not true r e = absurd cc
when-not false r e = refl

when-neither : (a b : Bool) (r q : Refusal) → when a r ++ when b q ≡ [] → a ≡ false
when-neither true b r q e = absurd cc
when-neither false b r q e = refl

-- a command that isn't refused
answered : (gap : Option ℕ) (b : Bounds) (t : Target) (p : Point) (k : ℕ) (why : Why) → (does gap b (command.Back t) p).answer ≡ Ok (Back k why) → (refusals_of (command.Back t) p ≡ []) × (does gap b (command.Back t) p ≡ back t p) × ((back t p).answer ≡ Ok (Back k why))
unfolding accepted
answered gap b t p k why e =
    let u = unless-is (refusals_of (command.Back t) p) p (back t p) (Back k why) e in
    (u.0, u.1, ap (λ (o : Outcome). o.answer) (sym u.1) ∙ e)

gone-by : (n k : ℕ) (because why : Why) (p : Point) → (gone_back n because p).answer ≡ Ok (Back k why) → (n ≡ k) × (because ≡ why)
gone-by n k because why p e = (let s : n ≡ k = cc in s, let s : because ≡ why = cc in s)

-- ---- how many moves are taken back

steps-kept : (p : Point) → (kept_steps p == 0) ≡ false → 1 ≤ kept_steps p
steps-kept p e = let n = kept_steps p in grind (arith, nat_tests)

some-kept : (t : Target) (p : Point) → HasCount t → refusals_of (command.Back t) p ≡ [] → 1 ≤ length p.history
some-kept (target.Commands count) p some none =
    let e : nat_lt (marks p) count ≡ false = when-not _ FewerCommands none in
    let m = count-most (λ r. r.mark) p.history in
    let enough : count ≤ marks p = grind (arith, nat_tests) in
    omega (arith, m, enough, some)
some-kept (target.Steps count) p some none = let s = steps-kept p (when-not _ NoKeptStep none) in let m = count-most (λ r. is_step r.move) p.history in omega (arith, m, s)
some-kept target.Next p some none = let s = steps-kept p (when-not _ NoKeptStep none) in let m = count-most (λ r. is_step r.move) p.history in omega (arith, m, s)
some-kept target.Continue p some none = let s = steps-kept p (when-not _ NoKeptStep none) in let m = count-most (λ r. is_step r.move) p.history in omega (arith, m, s)
some-kept target.Finish p some none = let s = steps-kept p (when-neither _ (depth p.state == 0) NoKeptStep OutermostFrame none) in let m = count-most (λ r. is_step r.move) p.history in omega (arith, m, s)

-- what a command takes back
record Back-by (k : ℕ) (p q : Point) : Type 0 where
  some : 1 ≤ k
  within : k ≤ length p.history
  there : q ≡ back_by k p

gone-back : (o : Option ℕ) (p : Point) (k : ℕ) (because why : Why) → ((m : ℕ) → o ≡ Some m → (1 ≤ m) × (m ≤ length p.history)) → 1 ≤ length p.history → (gone_back (unwrap_or o (length p.history)) because p).answer ≡ Ok (Back k why) → Back-by k p (gone_back (unwrap_or o (length p.history)) because p).point
gone-back None p k because why bounds some e =
    let s = (gone-by _ k because why p e).0 in
    record { some = omega (arith, s, some); within = omega (arith, s); there = ap (λ n. back_by n p) s }
gone-back (Some m) p k because why bounds some e =
    let s = (gone-by m k because why p e).0 in
    let b = bounds m refl in
    record { some = omega (arith, s, b.0); within = omega (arith, s, b.1); there = ap (λ n. back_by n p) s }

stopped-back : (o : Option ℕ) (p : Point) (k : ℕ) (why : Why) → ((m : ℕ) → o ≡ Some m → (1 ≤ m) × (m ≤ length p.history)) → 1 ≤ length p.history → (to_stop o p).answer ≡ Ok (Back k why) → Back-by k p (to_stop o p).point
stopped-back None p k why bounds some e = gone-back None p k _ why bounds some e
stopped-back (Some m) p k why bounds some e = gone-back (Some m) p k _ why bounds some e

back-goes : (t : Target) (p : Point) (k : ℕ) (why : Why) → 1 ≤ length p.history → (back t p).answer ≡ Ok (Back k why) → Back-by k p (back t p).point
back-goes (target.Commands count) p k why some e = gone-back (found (target.Commands count) count p) p k _ why (latest-bounds _ count p.history p.state) some e
back-goes (target.Steps count) p k why some e = gone-back (found (target.Steps count) (min count (kept_steps p)) p) p k _ why (latest-bounds _ (min count (kept_steps p)) p.history p.state) some e
back-goes target.Next p k why some e = gone-back (found target.Next 1 p) p k _ why (latest-bounds _ 1 p.history p.state) some e
back-goes target.Continue p k why some e = stopped-back (found target.Continue 1 p) p k why (latest-bounds _ 1 p.history p.state) some e
back-goes target.Finish p k why some e = gone-back (found target.Finish 1 p) p k _ why (latest-bounds _ 1 p.history p.state) some e

pub moves-are-taken-back : TakesBackItsMoves
moves-are-taken-back gap b t p k why counts e =
    let a = answered gap b t p k why e in
    let g = back-goes t p k why (some-kept t p counts a.0) a.2 in
    let some = g.some in
    let within = g.within in
    let one : suc (k - 1) ≡ k = omega (arith, some) in
    let r = record-at (k - 1) p.history p.state (omega (arith, one, within)) in
    record {
      some = some;
      within = within;
      last = r.0;
      there = r.1;
      back =
          ap (λ (o : Outcome). o.point) a.1 ∙ g.there
          ∙ ap (λ (x : State). record p { history = drop k p.history; ahead = reverse (take k p.history) ++ p.ahead; state = x }) (ap (λ n. state_before n p.history p.state) (sym one) ∙ r.2);
    }

-- ---- counts

counts : (test : Record → Bool) (count n : ℕ) (p : Point) (k : ℕ) (why : Why) → (x : Nth test n p.history p.state) → n ≡ min count (count_by test p.history) → suc x.newer ≡ k → (why ≡ Done) ↔ (count ≤ count_by test p.history) → (why ≡ Start) ↔ (count_by test p.history < count) → CountsBack test count p k why
counts test count n p k why x is far done start =
    let back : k - 1 ≡ x.newer = omega (arith, far) in
    record {
      last = ap (λ j. option_map test (slice_get p.history j)) back ∙ ap (option_map test) x.there ∙ ap Some x.is;
      counted = ap (λ j. count_by test (take j p.history)) (sym far) ∙ x.counted ∙ is;
      done = done;
      start = start;
    }

-- what is found is the n-th
nth-found : (test : Record → Bool) (n : ℕ) (p : Point) (k : ℕ) (because why : Why) → (x : Nth test n p.history p.state) → (gone_back (unwrap_or (latest (λ r y. test r) n p.history p.state) (length p.history)) because p).answer ≡ Ok (Back k why) → (suc x.newer ≡ k) × (because ≡ why)
nth-found test n p k because why x e =
    gone-by (suc x.newer) k because why p (ap (λ (o : Option ℕ). (gone_back (unwrap_or o (length p.history)) because p).answer) (sym x.far) ∙ e)

undone : (gap : Option ℕ) (b : Bounds) (count : ℕ) (p : Point) (k : ℕ) (why : Why) → 1 ≤ count → (does gap b (command.Back (target.Commands count)) p).answer ≡ Ok (Back k why) → CountsBack (λ r. r.mark) count p k why
undone gap b count p k why some e =
    let a = answered gap b (target.Commands count) p k why e in
    let few : nat_lt (marks p) count ≡ false = when-not _ FewerCommands a.0 in
    let enough : count ≤ marks p = grind (arith, nat_tests) in
    let x = nth (λ r. r.mark) count p.history p.state some enough in
    let f = nth-found (λ r. r.mark) count p k Done why x a.2 in
    counts (λ r. r.mark) count count p k why x (omega (arith, enough)) f.0
    (λ done. enough, λ le. sym f.1)
    (λ start. absurd (let s : Done ≡ Start = f.1 ∙ start in cc), λ less. absurd (omega (arith, less, enough)))

because-enough : (n c : ℕ) (why : Why) → (if nat_le n c then Done else Start) ≡ why → ((why ≡ Done) ↔ (n ≤ c)) × ((why ≡ Start) ↔ (c < n))
because-enough n c why e = at (nat_le n c) refl e
  where
    at : (v : Bool) → nat_le n c ≡ v → (if v then Done else Start) ≡ why → ((why ≡ Done) ↔ (n ≤ c)) × ((why ≡ Start) ↔ (c < n))
    at true t e = let le : n ≤ c = grind (arith, nat_tests) in (
      (λ done. le, λ l. sym e),
      (λ start. absurd (let s : Done ≡ Start = e ∙ start in cc), λ less. absurd (omega (arith, less, le))),
    )
    at false t e = let gt : c < n = grind (arith, nat_tests) in (
      (λ done. absurd (let s : Start ≡ Done = e ∙ done in cc), λ le. absurd (omega (arith, gt, le))),
      (λ start. gt, λ less. sym e),
    )

reversed : (gap : Option ℕ) (b : Bounds) (count : ℕ) (p : Point) (k : ℕ) (why : Why) → 1 ≤ count → (does gap b (command.Back (target.Steps count)) p).answer ≡ Ok (Back k why) → CountsBack (λ r. is_step r.move) count p k why
reversed gap b count p k why some e =
    let a = answered gap b (target.Steps count) p k why e in
    let s = steps-kept p (when-not _ NoKeptStep a.0) in
    let x = nth (λ r. is_step r.move) (min count (kept_steps p)) p.history p.state (omega (arith, some, s)) (omega arith) in
    let f = nth-found (λ r. is_step r.move) (min count (kept_steps p)) p k (if nat_le count (kept_steps p) then Done else Start) why x a.2 in
    let w = because-enough count (kept_steps p) why f.1 in
    counts (λ r. is_step r.move) count (min count (kept_steps p)) p k why x refl f.0 w.0 w.1

pub counts-are-gone-back : CountsAreGoneBack
counts-are-gone-back gap b count p k why some = (undone gap b count p k why some, reversed gap b count p k why some)

-- ---- what is found

both : (a b : Bool) → a && b ≡ true → (a ≡ true) × (b ≡ true)
both true true e = (refl, refl)
both true false e = absurd cc
both false b e = absurd cc

and-both : (a b : Bool) → a ≡ true → b ≡ true → a && b ≡ true
and-both a b e f = rw (e, f) refl

either : (a b : Bool) → a || b ≡ true → (a ≡ true) ⊎ (b ≡ true)
either true b e = inl refl
either false true e = inr refl
either false false e = absurd cc

or-either : (a b : Bool) → (a ≡ true) ⊎ (b ≡ true) → a || b ≡ true
or-either true b e = refl
or-either false true e = refl
or-either false false (inl e) = absurd cc
or-either false false (inr e) = absurd cc

module _ (Sought : Record → State → Type 0) (test : Test) (to : (r : Record) (y : State) → Sought r y → test r y ≡ true) (from : (r : Record) (y : State) → test r y ≡ true → Sought r y) where
  not-at : (p : Point) (j : ℕ) → ((r : Record) → slice_get p.history (j - 1) ≡ Some r → test r (before_last (j - 1) p) ≡ false) → IsAt Sought p j → ⊥
  not-at p j fails at = let f : false ≡ true = sym (fails at.0 at.1) ∙ to at.0 _ at.2 in cc

  -- the latest one
  finds : (because : Why) (p : Point) (m : ℕ) (why : Why) → Latest test p.history p.state m → why ≡ because → (because ≡ Start → ⊥) → FindsLatest Sought because p m why
  finds because p m why l is not =
      let far = l.far in
      let back : m - 1 ≡ l.newer = omega (arith, far) in
      record {
        newer = λ j some less. not-at p j (λ r there. l.others (j - 1) r (omega (arith, some, less, far)) there);
        found = λ other. (
          is,
          (
            l.found,
            ap (λ n. slice_get p.history n) back ∙ l.there,
            from l.found _ (ap (λ n. test l.found (before_last n p)) back ∙ l.passes),
          ),
        );
        start = λ s. absurd (not (sym is ∙ s));
      }

  -- there is none
  finds-none : (because : Why) (p : Point) (why : Why) → latest test 1 p.history p.state ≡ None → why ≡ Start → FindsLatest Sought because p (length p.history) why
  finds-none because p why none is = record {
    newer = λ j some less. not-at p j (λ r there. latest-none test p.history p.state none (j - 1) r there);
    found = λ other. absurd (other is);
    start = λ s. (refl, not-at p (length p.history) (λ r there. latest-none test p.history p.state none (length p.history - 1) r there));
  }

  -- which of both
  latest-found : (p : Point) (k : ℕ) (why : Why) (o : Option ℕ) → latest test 1 p.history p.state ≡ o → (gone_back (unwrap_or o (length p.history)) (if is_some o then Done else Start) p).answer ≡ Ok (Back k why) → FindsLatest Sought Done p k why
  latest-found p k why None none e =
      let g = gone-by (length p.history) k Start why p e in
      subst (λ (n : ℕ). FindsLatest Sought Done p n why) g.0 (finds-none Done p why none (sym g.1))
  latest-found p k why (Some m) is e =
      let g = gone-by m k Done why p e in
      subst (λ (n : ℕ). FindsLatest Sought Done p n why) g.0 (finds Done p m why (latest-is test p.history p.state m is) (sym g.1) (λ s. cc))

  -- of a stop
  abbrev stop_at : ℕ → Point → Why
  stop_at k p = if breaks_at p (before_last k p) then Break else Watch

  no-start : (v : Bool) → (if v then Break else Watch) ≡ Start → ⊥
  no-start true s = cc
  no-start false s = cc

  stop-found : (p : Point) (k : ℕ) (why : Why) (o : Option ℕ) → latest test 1 p.history p.state ≡ o → (to_stop o p).answer ≡ Ok (Back k why) → FindsLatest Sought (stop_at k p) p k why
  stop-found p k why None none e =
      let g = gone-by (length p.history) k Start why p e in
      subst (λ (n : ℕ). FindsLatest Sought (stop_at n p) p n why) g.0 (finds-none (stop_at (length p.history) p) p why none (sym g.1))
  stop-found p k why (Some m) is e =
      let g = gone-by m k (stop_at m p) why p e in
      subst (λ (n : ℕ). FindsLatest Sought (stop_at n p) p n why) g.0 (finds (stop_at m p) p m why (latest-is test p.history p.state m is) (sym g.1) (no-start (breaks_at p (before_last m p))))

at-most : (m n : ℕ) → nat_le m n ≡ true → m ≤ n
at-most m n h = grind (arith, nat_tests)

is-at-most : (m n : ℕ) → m ≤ n → nat_le m n ≡ true
is-at-most m n h = grind (arith, nat_tests)

below : (m n : ℕ) → nat_lt m n ≡ true → m < n
below m n h = grind (arith, nat_tests)

is-below : (m n : ℕ) → m < n → nat_lt m n ≡ true
is-below m n h = grind (arith, nat_tests)

pub the-latest-is-found : TheLatestIsFound
the-latest-is-found gap b p k why = (
  λ e. latest-found (IsSought target.Next p) (passes target.Next p)
      (λ r y s. and-both _ _ s.0 (is-at-most _ _ s.1))
      (λ r y t. let s = both _ _ t in (s.0, at-most _ _ s.1))
      p k why (found target.Next 1 p) refl (answered gap b target.Next p k why e).2,
  λ e. latest-found (IsSought target.Finish p) (passes target.Finish p)
      (λ r y s. is-below _ _ s)
      (λ r y t. below _ _ t)
      p k why (found target.Finish 1 p) refl (answered gap b target.Finish p k why e).2,
  λ e. stop-found (IsSought target.Continue p) (passes target.Continue p)
      (λ r y s. and-both _ _ s.0 (or-either _ _ s.1))
      (λ r y t. let s = both _ _ t in (s.0, either _ _ s.1))
      p k why (found target.Continue 1 p) refl (answered gap b target.Continue p k why e).2,
)

-- ---- undoing

pub undo-goes-to-the-mark : UndoGoesToTheMark
unfolding accepted
undo-goes-to-the-mark gap b n p some enough =
    let m = nth (λ r. r.mark) n p.history p.state some enough in
    let e : nat_lt (marks p) n ≡ false = grind (arith, nat_tests) in
    let one : suc m.newer ≡ m.newer + 1 = omega arith in
    record {
      newer = m.newer;
      found = m.found;
      there = m.there;
      marked = m.is;
      last = m.last;
      back =
          rw e (ap (λ (o : Option ℕ). back_by (unwrap_or o (length p.history)) p) m.far
          ∙ ap (λ (x : State). record p { history = drop (suc m.newer) p.history; ahead = reverse (take (suc m.newer) p.history) ++ p.ahead; state = x }) m.back
          ∙ ap (λ (j : ℕ). record p { history = drop j p.history; ahead = reverse (take j p.history) ++ p.ahead; state = m.found.before }) one);
    }
