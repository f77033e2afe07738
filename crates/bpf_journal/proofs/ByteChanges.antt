-- The latest change of a byte, as a walk over kept entries finds it, is that of the history.
use Rattle.std.specs.Prelude.{if◌then◌else◌, ◌==◌, is_some, option_map}
use Rattle.std.proofs.Common.{◌≡◌, ◌+◌, ◌-◌, ◌<◌, ◌≤◌, ◌^◌, ℕ, zero, suc, Bool, true, false, List, [], ◌∷◌, Option, Some, None, length, take, drop, map, refl, sym, ap, subst, ◌∙◌, arith, add-one}
use Rattle.std.proofs.lemmas.Bool.Decides.{nat_tests}
use Rattle.std.proofs.lemmas.List.{drop-drop, length-drop}
use Rattle.std.proofs.lemmas.List.Elements.{All-head, All-tail}
use Rattle.bpf_steps.specs.ByAddress.{byte}
use Rattle.bpf_entries.specs.declared.entry.Entry.{Entry}
use Rattle.bpf_entries.specs.Past.{Frames, Same, Fewer, More, past}
use Rattle.bpf_machine.specs.Moves.{overwritten}
use Rattle.bpf_steps.specs.State.{State, depth}
use Rattle.bpf_entries.specs.Keeping.{Kept}
use Rattle.bpf_journal.specs.Histories.{Record, IsRun, kept_of}
use Rattle.bpf_journal.specs.Keepers.{IsPlace, IsWithin, Passes, TellsByteBefore, told_before}
use Rattle.bpf_journal.specs.Lookups.{Test, latest, state_before, changes_byte, byte_change, last_change, IsLatestChange, LastChangeIsLatest, NoChangeNoDifference}
use Rattle.bpf_journal.specs.Replaced.{byte_before, depth_before, depth_by}
use Rattle.bpf_journal.proofs.Items.{few_entries}
use Rattle.bpf_journal.specs.Changes.{further, change_in}
use Rattle.bpf_journal.specs.declared.timeline.ByteChange.{ByteChange}
use Rattle.bpf_journal.proofs.Telling.{tells_before}
use Rattle.bpf_ring.specs.Quiet.{AreQuiet}
use Rattle.bpf_ring.specs.declared.quiet.PassedOver.{PassedOver}
use Rattle.bpf_journal.proofs.Walks.{At, entry_at, drop_all, split_at}

further_none : (o : Option ByteChange) → o ≡ option_map (further 0) o
further_none None = refl
further_none (Some c) = let n : c.moves ≡ 0 + c.moves = omega arith in ap (λ (m : ℕ). Some (record c { moves = m })) n

further_more : (k : ℕ) (o : Option ByteChange) → option_map (further k) (option_map (further 1) o) ≡ option_map (further (k + 1)) o
further_more k None = refl
further_more k (Some c) =
    let sum : k + (1 + c.moves) ≡ k + 1 + c.moves = omega arith in
    ap (λ (n : ℕ). Some (record c { moves = n })) sum

-- a look at the newest entry
same_byte : (a d value old : ℕ) (k : Kept) (ks : List Kept) → old ≡ byte_before d k.0 a value → old ≡ value → change_in a d value (k ∷ ks) ≡ option_map (further 1) (change_in a (depth_before d k.0) value ks)
same_byte a d value old k ks is same =
    let hit : (byte_before d k.0 a value == value) ≡ true = let e : byte_before d k.0 a value ≡ value = sym is ∙ same in grind (arith, nat_tests) in
    rw hit refl

other_byte : (a d value old : ℕ) (k : Kept) (ks : List Kept) → old ≡ byte_before d k.0 a value → (old ≡ value → ⊥) → change_in a d value (k ∷ ks) ≡ Some (record { moves = 1; old = old; new = value })
other_byte a d value old k ks is differ =
    let miss : (byte_before d k.0 a value == value) ≡ false = let e : byte_before d k.0 a value ≡ value → ⊥ = λ e. differ (is ∙ e) in grind (arith, nat_tests) in
    rw miss (ap (λ (n : ℕ). Some (record { moves = 1; old = n; new = value })) (sym is))

-- A move is at most one frame deep.
one_by : (f : Frames) (d : ℕ) → depth_by f d ≤ d + 1
one_by Same d = omega arith
one_by Fewer d = omega arith
one_by (More saved) d = omega arith

one_deeper : (d : ℕ) (e : Entry) → depth_before d e ≤ d + 1
one_deeper d e = one_by (past d e).frames d

-- Moves that left the byte as it was are passed over.
further_one : (n : ℕ) (o : Option ByteChange) → option_map (further 1) (option_map (further n) o) ≡ option_map (further (suc n)) o
further_one n None = refl
further_one n (Some c) =
    let sum : 1 + (n + c.moves) ≡ suc n + c.moves = omega arith in
    ap (λ (m : ℕ). Some (record c { moves = m })) sum

further_both : (k n : ℕ) (o : Option ByteChange) → option_map (further k) (option_map (further n) o) ≡ option_map (further (k + n)) o
further_both k n None = refl
further_both k n (Some c) =
    let sum : k + (n + c.moves) ≡ k + n + c.moves = omega arith in
    ap (λ (m : ℕ). Some (record c { moves = m })) sum

quiet_on : (a value d e n : ℕ) (ks : List Kept) → AreQuiet a value d e n ks → change_in a d value ks ≡ option_map (further n) (change_in a e value (drop n ks))
quiet_on a value d e zero ks quiet = subst (λ (f : ℕ). change_in a f value ks ≡ option_map (further 0) (change_in a e value ks)) quiet (further_none (change_in a e value ks))
quiet_on a value d e (suc n) [] quiet = absurd quiet
quiet_on a value d e (suc n) (k ∷ ks) quiet =
    same_byte a d value value k ks (sym quiet.0) refl
    ∙ ap (option_map (further 1)) (quiet_on a value (depth_before d k.0) e n ks quiet.1)
    ∙ further_one n (change_in a e value (drop n ks))

-- There are so many, and the depth before them isn't much greater.
quiet_low : (a value d e n : ℕ) (ks : List Kept) → AreQuiet a value d e n ks → (n ≤ length ks) × (e ≤ d + n)
quiet_low a value d e zero ks quiet = (omega arith, omega (arith, quiet))
quiet_low a value d e (suc n) [] quiet = absurd quiet
quiet_low a value d e (suc n) (k ∷ ks) quiet =
    let rest = quiet_low a value (depth_before d k.0) e n ks quiet.1 in
    let one = one_deeper d k.0 in
    let many = rest.0 in
    let low = rest.1 in
    (omega (arith, many), omega (arith, low, one))

module _ {K : Type 0} (holds : K → List Kept → Type 0) (place : K → List Kept → ℕ) (keeper : K) where
  -- after k turns a walk is at the place of the front without its k newest, at the depth there; these left the byte as it was
  pub record Looking (es : List Kept) (a value d at e k : ℕ) : Type 0 where
    pub here : place keeper (drop k es) ≡ at
    pub rest : change_in a d value es ≡ option_map (further k) (change_in a e value (drop k es))
    pub low : e ≤ d + k

  pub looking_start : (es : List Kept) (a value d at : ℕ) → at ≡ place keeper es → Looking es a value d at d 0
  looking_start es a value d at here = record { here = sym here; rest = further_none (change_in a d value es); low = omega arith }

  pub looking_place : (es : List Kept) (a value d at e k : ℕ) → holds keeper es → Looking es a value d at e k → IsPlace holds place keeper at
  looking_place es a value d at e k held w = record {
    newer = take k es;
    front = drop k es;
    held = subst (holds keeper) (sym (split_at es k)) held;
    here = w.here;
  }

  -- the depth is far from its greatest number, since there are few entries
  pub looking_shallow : (es : List Kept) (a value d at e k room : ℕ) → d < 8 → IsWithin room es → k < length es → Looking es a value d at e k → e + 1 < 2 ^ 32
  looking_shallow es a value d at e k room shallow within lt w =
      let most = within.size.1 in
      let weighs = within.weighs in
      let low = w.low in
      omega (arith, few_entries es, weighs, most, low, lt, shallow)

  -- some are passed over
  pub looking_past : (es : List Kept) (a value d at e k : ℕ) (passed : PassedOver) → holds keeper es → k ≤ length es → Looking es a value d at e k → Passes holds place keeper at a value e passed
      → Looking es a value d passed.place passed.depth (k + passed.count) × (k + passed.count ≤ length es)
  looking_past es a value d at e k passed held within w passes =
      let p = passes (take k es) (drop k es) (subst (holds keeper) (sym (split_at es k)) held) w.here in
      let on : drop passed.count (drop k es) ≡ drop (k + passed.count) es = drop-drop passed.count k es in
      let few = quiet_low a value e passed.depth passed.count (drop k es) p.quiet in
      let many = few.0 in
      let deep = few.1 in
      let low = w.low in (
        record {
          here = ap (place keeper) (sym on) ∙ p.behind;
          rest =
              w.rest
              ∙ ap (option_map (further k)) (quiet_on a value e passed.depth passed.count (drop k es) p.quiet)
              ∙ further_both k passed.count (change_in a passed.depth value (drop passed.count (drop k es)))
              ∙ ap (λ (ks : List Kept). option_map (further (k + passed.count)) (change_in a passed.depth value ks)) on;
          low = omega (arith, low, deep);
        },
        omega (arith, many, length-drop k es, within),
      )

  -- what is told there
  looked_on : (es : List Kept) (a value d at e k : ℕ) (result : Option (ℕ × ℕ × ℕ)) → holds keeper es → k < length es → Looking es a value d at e k → TellsByteBefore holds place keeper at e a value result → (x : At es k) → result ≡ Some (byte_before e x.found.0 a value, depth_before e x.found.0, place keeper (drop (suc k) es))
  looked_on es a value d at e k result held lt w tells x =
      tells (take k es) (drop k es) (subst (holds keeper) (sym (split_at es k)) held) w.here ∙ ap (told_before (place keeper) e a value) x.front

  module _ (es : List Kept) (a value d at e k before deep old : ℕ) (held : holds keeper es) (lt : k < length es) (w : Looking es a value d at e k) (tells : TellsByteBefore holds place keeper at e a value (Some (old, deep, before))) where
    record Here : Type 0 where
      pub x : At es k
      pub told : old ≡ byte_before e x.found.0 a value
      pub deep_is : deep ≡ depth_before e x.found.0
      pub place_is : place keeper (drop (suc k) es) ≡ before

    here_at : Here
    here_at =
        let x = entry_at es k lt in
        let same = looked_on es a value d at e k _ held lt w tells x in
        let answer : ℕ × ℕ × ℕ = (old, deep, before) in
        let newest : ℕ × ℕ × ℕ = (byte_before e x.found.0 a value, depth_before e x.found.0, place keeper (drop (suc k) es)) in
        let found : answer ≡ newest = cc in
        record {
          x = x;
          told = ap (λ (t : ℕ × ℕ × ℕ). t.0) found;
          deep_is = ap (λ (t : ℕ × ℕ × ℕ). t.1) found;
          place_is = sym (ap (λ (t : ℕ × ℕ × ℕ). t.2) found);
        }

    -- a turn
    pub looking_step : old ≡ value → Looking es a value d before deep (k + 1)
    looking_step same =
        let h = here_at in
        let low = w.low in
        rw add-one (record {
          here = h.place_is;
          rest =
              w.rest
              ∙ ap (λ (ks : List Kept). option_map (further k) (change_in a e value ks)) h.x.front
              ∙ ap (option_map (further k)) (same_byte a e value old h.x.found (drop (suc k) es) h.told same)
              ∙ further_more k (change_in a (depth_before e h.x.found.0) value (drop (suc k) es))
              ∙ ap (λ (n : ℕ). option_map (further n) (change_in a (depth_before e h.x.found.0) value (drop (suc k) es))) (let n : k + 1 ≡ suc k = omega arith in n)
              ∙ ap (λ (f : ℕ). option_map (further (suc k)) (change_in a f value (drop (suc k) es))) (sym h.deep_is);
          low = let one = one_deeper e h.x.found.0 in omega (arith, h.deep_is, one, low);
        })

    -- the change
    pub looking_found : (old ≡ value → ⊥) → Some (record { moves = k + 1; old = old; new = value }) ≡ change_in a d value es
    looking_found differ =
        let h = here_at in
        sym (
        w.rest
        ∙ ap (λ (ks : List Kept). option_map (further k) (change_in a e value ks)) h.x.front
        ∙ ap (option_map (further k)) (other_byte a e value old h.x.found (drop (suc k) es) h.told differ)
        )

  -- there is an entry where not all is walked
  pub looking_on : (es : List Kept) (a value d at e k : ℕ) → holds keeper es → k < length es → Looking es a value d at e k → TellsByteBefore holds place keeper at e a value None → ⊥
  looking_on es a value d at e k held lt w tells =
      let same = looked_on es a value d at e k _ held lt w tells (entry_at es k lt) in
      cc

  -- all is walked
  pub looking_end : (es : List Kept) (a value d at e k : ℕ) → k ≡ length es → Looking es a value d at e k → None ≡ change_in a d value es
  looking_end es a value d at e k all w =
      sym (
      w.rest
      ∙ ap (λ (n : ℕ). option_map (further k) (change_in a e value (drop n es))) all
      ∙ ap (λ (ks : List Kept). option_map (further k) (change_in a e value ks)) (drop_all es)
      )

-- The record that is looked up lies at least one move back.
latest_some : (test : Test) (n : ℕ) (h : List Record) (y : State) → latest test n h y ≡ Some zero → ⊥
latest_some test n [] y e = cc
latest_some test n (r ∷ h) y e = look (test r y) (n == 1) (latest test (n - 1) h r.before) (latest test n h r.before) e
  where
    look : (hit one : Bool) (more rest : Option ℕ) → (if hit then (if one then Some 1 else option_map suc more) else option_map suc rest) ≡ Some zero → ⊥
    look true true more rest e = cc
    look true false None rest e = cc
    look true false (Some m) rest e = cc
    look false one more None e = cc
    look false one more (Some m) e = cc

-- One move further back.
further_back : (a : ℕ) (r : Record) (h : List Record) (y : State) (o : Option ℕ) → (o ≡ Some zero → ⊥) → option_map (further 1) (option_map (byte_change a h r.before) o) ≡ option_map (byte_change a (r ∷ h) y) (option_map suc o)
further_back a r h y None some = refl
further_back a r h y (Some zero) some = absurd (some refl)
further_back a r h y (Some (suc k)) some =
    let n : 1 + suc k ≡ suc (suc k) = omega arith in
    let p : suc k - 1 ≡ k = omega arith in
    let q : suc k ≡ suc (suc k) - 1 = omega arith in
    let old : ℕ = byte (state_before (suc k) h r.before) a in
    ap (λ (m : ℕ). Some (record { moves = m; old = old; new = byte (state_before (suc k - 1) h r.before) a })) n
    ∙ ap (λ (j : ℕ). Some (record { moves = suc (suc k); old = old; new = byte (state_before j h r.before) a })) p
    ∙ ap (λ (j : ℕ). Some (record { moves = suc (suc k); old = old; new = byte (state_before j (r ∷ h) y) a })) q

pub change_told : (a : ℕ) (h : List Record) (y : State) → IsRun h y → change_in a (depth y) (byte y a) (map kept_of h) ≡ last_change a h y
change_told a [] y run = refl
change_told a (r ∷ h) y run =
    let t = tells_before r.before y r.move run.0 in
    look t.depths (t.bytes a) (change_told a h r.before run.1) (byte r.before a == byte y a) refl
  where
    look : depth r.before ≡ depth_before (depth y) (overwritten r.before r.move) → byte r.before a ≡ byte_before (depth y) (overwritten r.before r.move) a (byte y a) → change_in a (depth r.before) (byte r.before a) (map kept_of h) ≡ last_change a h r.before → (same : Bool) → (byte r.before a == byte y a) ≡ same → change_in a (depth y) (byte y a) (map kept_of (r ∷ h)) ≡ last_change a (r ∷ h) y
    look depths bytes rest true e =
        let same : byte r.before a ≡ byte y a = grind (arith, nat_tests) in
        same_byte a (depth y) (byte y a) (byte r.before a) (kept_of r) (map kept_of h) bytes same
        ∙ ap (λ (d : ℕ). option_map (further 1) (change_in a d (byte y a) (map kept_of h))) (sym depths)
        ∙ ap (λ (v : ℕ). option_map (further 1) (change_in a (depth r.before) v (map kept_of h))) (sym same)
        ∙ ap (option_map (further 1)) rest
        ∙ further_back a r h y (latest (changes_byte a) 1 h r.before) (latest_some (changes_byte a) 1 h r.before)
        ∙ rw e refl
    look depths bytes rest false e =
        let differ : byte r.before a ≡ byte y a → ⊥ = λ same. grind (arith, nat_tests) in
        other_byte a (depth y) (byte y a) (byte r.before a) (kept_of r) (map kept_of h) bytes differ ∙ rw e refl

-- The latest change by the newest record.
change_same : (a : ℕ) (r : Record) (h : List Record) (y : State) → (byte r.before a == byte y a) ≡ true → last_change a (r ∷ h) y ≡ option_map (further 1) (last_change a h r.before)
change_same a r h y e =
    rw e (sym (further_back a r h y (latest (changes_byte a) 1 h r.before) (latest_some (changes_byte a) 1 h r.before)))

change_here : (a : ℕ) (r : Record) (h : List Record) (y : State) → (byte r.before a == byte y a) ≡ false → last_change a (r ∷ h) y ≡ Some (record { moves = 1; old = byte r.before a; new = byte y a })
change_here a r h y e = rw e refl

-- None, and no difference.
none_further : (o : Option ByteChange) → option_map (further 1) o ≡ None → o ≡ None
none_further None e = refl
none_further (Some c) e = cc

pub no_change : NoChangeNoDifference
no_change a h y e zero = refl
no_change a [] y e (suc j) = refl
no_change a (r ∷ h) y e (suc j) = look (byte r.before a == byte y a) refl (λ none. no_change a h r.before none j)
  where
    look : (same : Bool) → (byte r.before a == byte y a) ≡ same → (last_change a h r.before ≡ None → byte (state_before j h r.before) a ≡ byte r.before a) → byte (state_before j h r.before) a ≡ byte y a
    look true s rest =
        let same : byte r.before a ≡ byte y a = grind (arith, nat_tests) in
        rest (none_further _ (sym (change_same a r h y s) ∙ e)) ∙ same
    look false s rest = let f : None ≡ Some (record { moves = 1; old = byte r.before a; new = byte y a }) = sym e ∙ change_here a r h y s in cc

-- The one there is.
some_further : (o : Option ByteChange) (c : ByteChange) → option_map (further 1) o ≡ Some c → (d : ByteChange) × (o ≡ Some d) × (c ≡ further 1 d)
some_further None c e = cc
some_further (Some d) c e = (d, refl, (let s : further 1 d ≡ c = cc in sym s))

pub latest_change : LastChangeIsLatest
latest_change a [] y c e = cc
latest_change a (r ∷ h) y c e = look (byte r.before a == byte y a) refl (latest_change a h r.before)
  where
    look : (same : Bool) → (byte r.before a == byte y a) ≡ same → ((d : ByteChange) → last_change a h r.before ≡ Some d → IsLatestChange a h r.before d) → IsLatestChange a (r ∷ h) y c
    look true s rest =
        let same : byte r.before a ≡ byte y a = grind (arith, nat_tests) in
        let f = some_further (last_change a h r.before) c (sym (change_same a r h y s) ∙ e) in
        let i = rest f.0 f.1 in
        let n : 1 + f.0.moves ≡ suc f.0.moves = omega arith in
        let long : f.0.moves ≤ length h = i.within in
        subst (IsLatestChange a (r ∷ h) y) (sym f.2) (record {
          some = omega arith;
          within = omega (arith, long);
          old = ap (λ (m : ℕ). byte (state_before m (r ∷ h) y) a) n ∙ i.old;
          new = sym same ∙ i.new;
          differs = i.differs;
          since = λ j less. kept same i j (omega (arith, less));
        })
      where
        kept : byte r.before a ≡ byte y a → {d : ByteChange} → IsLatestChange a h r.before d → (j : ℕ) → j < suc d.moves → byte (state_before j (r ∷ h) y) a ≡ byte y a
        kept same i zero less = refl
        kept same i (suc j) less = i.since j (omega (arith, less)) ∙ same
    look false s rest =
        let differ : byte r.before a ≡ byte y a → ⊥ = λ same. grind (arith, nat_tests) in
        let here : Some (record { moves = 1; old = byte r.before a; new = byte y a }) ≡ Some c = sym (change_here a r h y s) ∙ e in
        let is : record { moves = 1; old = byte r.before a; new = byte y a } ≡ c = cc in
        subst (IsLatestChange a (r ∷ h) y) is (record {
          some = omega arith;
          within = omega arith;
          old = refl;
          new = refl;
          differs = differ;
          since = λ j less. first j (omega (arith, less));
        })
      where
        first : (j : ℕ) → j ≡ 0 → byte (state_before j (r ∷ h) y) a ≡ byte y a
        first zero e = refl
        first (suc j) e = absurd (omega (arith, e))
