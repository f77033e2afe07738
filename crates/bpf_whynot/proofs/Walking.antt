-- A walk backwards over the slots from which control comes to a seed.
use Rattle.std.proofs.Common.{◌≡◌, ◌≢◌, ◌<◌, ◌≤◌, ◌⊎◌, inl, inr, ℕ, zero, suc, ◌+◌, ◌-◌, Bool, true, false, List, [], ◌∷◌, ◌++◌, length, get_or, refl, sym, ap, ◌∙◌, subst, arith, length-append, length-set, Option, Some}
use Rattle.std.specs.Prelude.{None, if◌then◌else◌, ◌==◌, not, slice_set, slice_index, count_by, cond}
use Rattle.std.proofs.lemmas.List.{get_or-set_same, get_or-set_other, get_or-append_right, get_or_append_left}
use Rattle.std.proofs.lemmas.List.Sums.{sum_by-set, count_by-le-length}
use Rattle.bpf_whynot.specs.Flows.{unless}
use Rattle.bpf_whynot.specs.Tables.{is_in}
use Rattle.bpf_whynot.specs.Walks.{AreBack, Begins, Comes, GoesOn, IsWalk, LooksAlong, LooksBack, LooksBehind, MarksIf, StandsIn}
use Rattle.bpf_whynot.specs.Walks.Comes.{here, on, jumps}
use Rattle.bpf_whynot.specs.declared.walk.Walk.{Walk}

same_or_other : (i j : ℕ) → (i ≡ j) ⊎ (i ≢ j)
same_or_other i j = grind arith

within_or_not : (i n : ℕ) → (i < n) ⊎ (n ≤ i)
within_or_not i n = grind arith

clash : {A : Type 0} (b : Bool) → b ≡ true → b ≡ false → A
clash b t f = absurd (differ (sym t ∙ f))
  where
    differ : ◌≡◌ {A = Bool} true false → ⊥
    differ e = cc

-- nothing behind a list is marked
pub reached_within : (reach : List Bool) (slot : ℕ) → is_in reach slot ≡ true → slot < length reach
reached_within [] slot e = absurd (differ e)
  where
    differ : ◌≡◌ {A = Bool} false true → ⊥
    differ e = cc
reached_within (b ∷ reach) zero e = grind arith
reached_within (b ∷ reach) (suc slot) e = let rest = reached_within reach slot e in grind arith

-- one more mark
counted : (reach : List Bool) (slot : ℕ) → slot < length reach → is_in reach slot ≡ false → count_by (λ b. b) (slice_set reach slot true) ≡ count_by (λ b. b) reach + 1
counted reach slot inside fresh =
    let sums = sum_by-set (λ b. cond b 1 0) reach slot true false inside in
    let none : ◌≡◌ {A = ℕ} (cond (get_or reach slot false) 1 0) 0 = ap (λ b. cond b 1 0) fresh in
    omega (arith, sums, none)

-- a slot that isn't marked yet becomes marked, and stands in the queue
pub record Puts (old new : Walk) (slot : ℕ) : Type 0 where
  pub inside : slot < length old.marks.items
  pub fresh : is_in old.marks.items slot ≡ false
  pub marks : new.marks.items ≡ slice_set old.marks.items slot true
  pub queue : new.queue.items ≡ old.queue.items ++ slot ∷ []

marked_size : (old new : Walk) (slot : ℕ) → Puts old new slot → length new.marks.items ≡ length old.marks.items
marked_size old new slot m = ap length m.marks ∙ length-set old.marks.items slot true

marked_here : (old new : Walk) (slot : ℕ) → Puts old new slot → is_in new.marks.items slot ≡ true
marked_here old new slot m = ap (λ marks. is_in marks slot) m.marks ∙ get_or-set_same old.marks.items slot true false m.inside

marked_other : (old new : Walk) (slot other : ℕ) → Puts old new slot → other ≢ slot → is_in new.marks.items other ≡ is_in old.marks.items other
marked_other old new slot other m apart = ap (λ marks. is_in marks other) m.marks ∙ get_or-set_other old.marks.items slot other true false apart

queue_size : (old new : Walk) (slot : ℕ) → Puts old new slot → length new.queue.items ≡ length old.queue.items + 1
queue_size old new slot m = ap length m.queue ∙ length-append old.queue.items (slot ∷ [])

queue_begins : (old new : Walk) (slot i : ℕ) → Puts old new slot → i < length old.queue.items → slice_index new.queue.items i ≡ slice_index old.queue.items i
queue_begins old new slot i m inside = ap (λ queue. slice_index queue i) m.queue ∙ get_or_append_left old.queue.items (slot ∷ []) 0 i inside

queue_ends : (old new : Walk) (slot i : ℕ) → Puts old new slot → i ≡ length old.queue.items → slice_index new.queue.items i ≡ slot
queue_ends old new slot i m last =
    let rest : i - length old.queue.items ≡ 0 = omega (arith, last) in
    ap (λ queue. slice_index queue i) m.queue ∙ get_or-append_right old.queue.items (slot ∷ []) (length old.queue.items) i 0 refl (omega (arith, last))
    ∙ ap (λ k. get_or (slot ∷ []) k 0) rest

marked_on : (old new : Walk) (slot : ℕ) → Puts old new slot → GoesOn old new
marked_on old new slot m = record {
  kept = λ other known. by_case other known (same_or_other other slot);
  size = marked_size old new slot m;
  longer = let size = queue_size old new slot m in omega (arith, size);
  begins = λ i inside. queue_begins old new slot i m inside;
}
  where
    by_case : (other : ℕ) → is_in old.marks.items other ≡ true → (other ≡ slot) ⊎ (other ≢ slot) → is_in new.marks.items other ≡ true
    by_case other known (inl same) = clash (is_in old.marks.items slot) (subst (λ n. is_in old.marks.items n ≡ true) same known) m.fresh
    by_case other known (inr apart) = marked_other old new slot other m apart ∙ known

marked_walk : (old new : Walk) (slot : ℕ) → Puts old new slot → (by along : ℕ → Option ℕ) (seeds : ℕ → Bool) (n : ℕ) → IsWalk by along seeds n old → Comes by along seeds slot → IsWalk by along seeds n new
marked_walk old new slot m by along seeds n walk comes = record {
  size = marked_size old new slot m ∙ walk.size;
  marked = λ i inside. in_queue i (within_or_not i (length old.queue.items)) inside;
  queued = λ other known. stands other known (same_or_other other slot);
  once = ap (count_by (λ b. b)) m.marks ∙ counted old.marks.items slot m.inside m.fresh ∙ ap (λ n. n + 1) walk.once ∙ sym (queue_size old new slot m);
  sound = λ other known. come other known (same_or_other other slot);
}
  where
    in_queue : (i : ℕ) → (i < length old.queue.items) ⊎ (length old.queue.items ≤ i) → i < length new.queue.items → is_in new.marks.items (slice_index new.queue.items i) ≡ true
    in_queue i (inl before) inside =
        subst (λ n. is_in new.marks.items n ≡ true) (sym (queue_begins old new slot i m before)) ((marked_on old new slot m).kept (slice_index old.queue.items i) (walk.marked i before))
    in_queue i (inr behind) inside =
        let size = queue_size old new slot m in
        subst (λ n. is_in new.marks.items n ≡ true) (sym (queue_ends old new slot i m (omega (arith, size)))) (marked_here old new slot m)

    stands : (other : ℕ) → is_in new.marks.items other ≡ true → (other ≡ slot) ⊎ (other ≢ slot) → StandsIn new.queue.items other
    stands other known (inl same) =
        let size = queue_size old new slot m in
        (length old.queue.items, omega (arith, size), queue_ends old new slot (length old.queue.items) m refl ∙ sym same)
    stands other known (inr apart) =
        let size = queue_size old new slot m in
        let before = walk.queued other (sym (marked_other old new slot other m apart) ∙ known) in
        let inside = before.1 in
        (before.0, omega (arith, size, inside), queue_begins old new slot before.0 m before.1 ∙ before.2)

    come : (other : ℕ) → is_in new.marks.items other ≡ true → (other ≡ slot) ⊎ (other ≢ slot) → Comes by along seeds other
    come other known (inl same) = subst (λ (i : ℕ). Comes by along seeds i) (sym same) comes
    come other known (inr apart) = walk.sound other (sym (marked_other old new slot other m apart) ∙ known)

pub marks : (old new : Walk) (test : Bool) (slot : ℕ) → test ≡ true → Puts old new slot → MarksIf test slot old new
marks old new test slot e m = record {
  on = marked_on old new slot m;
  there = λ test inside. marked_here old new slot m;
  walk = λ by along seeds n walk comes. marked_walk old new slot m by along seeds n walk (comes e);
}

-- a walk that stays
pub stays : (walk : Walk) → GoesOn walk walk
stays walk = record { kept = λ slot known. known; size = refl; longer = omega arith; begins = λ i inside. refl }

pub marks_nothing : (walk : Walk) (test : Bool) (slot : ℕ) → (test ≡ true → slot < length walk.marks.items → is_in walk.marks.items slot ≡ true)
    → MarksIf test slot walk walk
marks_nothing walk test slot there = record { on = stays walk; there = there; walk = λ by along seeds n known comes. known }

both_on : (old between new : Walk) → GoesOn old between → GoesOn between new → GoesOn old new
both_on old between new a b = record {
  kept = λ slot known. b.kept slot (a.kept slot known);
  size = b.size ∙ a.size;
  longer = let x = a.longer in let y = b.longer in omega (arith, x, y);
  begins = λ i inside. let x = a.longer in b.begins i (omega (arith, x)) ∙ a.begins i inside;
}

-- a slot that stands behind another lies one or two slots behind it
pub two_behind : (by : ℕ → Option ℕ) (q a b : ℕ) (old between new : Walk) (near far : Bool)
    → ((p : ℕ) → by p ≡ Some q → (p ≡ a) ⊎ (p ≡ b))
    → (by a ≡ Some q → near ≡ true) → (near ≡ true → by a ≡ Some q)
    → (by b ≡ Some q → far ≡ true) → (far ≡ true → by b ≡ Some q)
    → MarksIf near a old between → MarksIf far b between new → LooksBehind by q old new
two_behind by q a b old between new near far places is_near near_is is_far far_is one other = record {
  on = both_on old between new one.on other.on;
  there = λ p leads inside. found p leads inside (places p leads);
  walk = λ along seeds n walk comes.
      other.walk by along seeds n
      (one.walk by along seeds n walk (λ test. on q (near_is test) comes))
      (λ test. on q (far_is test) comes);
}
  where
    found : (p : ℕ) → by p ≡ Some q → p < length new.marks.items → (p ≡ a) ⊎ (p ≡ b) → is_in new.marks.items p ≡ true
    found p leads inside (inl same) =
        let size = other.on.size in
        subst (λ (i : ℕ). is_in new.marks.items i ≡ true) (sym same)
        (other.on.kept a (one.there (is_near (subst (λ (i : ℕ). by i ≡ Some q) same leads)) (omega (arith, size, same, inside))))
    found p leads inside (inr same) =
        subst (λ (i : ℕ). is_in new.marks.items i ≡ true) (sym same)
        (other.there (is_far (subst (λ (i : ℕ). by i ≡ Some q) same leads)) (omega (arith, same, inside)))

-- control that never leaves one slot
unless_if : (b : Bool) (o : Option ℕ) (q : ℕ) → (if b then None else o) ≡ Some q → (o ≡ Some q) × (not b ≡ true)
unless_if true o q e = absurd cc
unless_if false o q e = (e, refl)

pub unless_way : (but : ℕ) (way : ℕ → Option ℕ) (p q : ℕ) → unless but way p ≡ Some q → way p ≡ Some q
unless_way but way p q e = (unless_if (p == but) (way p) q e).0

pub unless_other : (but : ℕ) (way : ℕ → Option ℕ) (p q : ℕ) → unless but way p ≡ Some q → not (p == but) ≡ true
unless_other but way p q e = (unless_if (p == but) (way p) q e).1

unless_not : (b : Bool) (o : Option ℕ) → not b ≡ true → (if b then None else o) ≡ o
unless_not true o e = absurd cc
unless_not false o e = refl

pub unless_there : (but : ℕ) (way : ℕ → Option ℕ) (p q : ℕ) → not (p == but) ≡ true → way p ≡ Some q → unless but way p ≡ Some q
unless_there but way p q e to = unless_not (p == but) (way p) e ∙ to

-- jumps that lead to a slot, from the last one on, without one of them
pub record Along (but : ℕ) (jump : ℕ → Option ℕ) (q at : ℕ) (old now : Walk) : Type 0 where
  pub on : GoesOn old now
  pub there : (p : ℕ) → unless but jump p ≡ Some q → at ≤ p → p < length now.marks.items → is_in now.marks.items p ≡ true
  pub leads : (p : ℕ) → at ≡ suc p → jump p ≡ Some q
  pub is_walk : (behind : ℕ → Option ℕ) (seeds : ℕ → Bool) (n : ℕ)
      → IsWalk behind (unless but jump) seeds n old → Comes behind (unless but jump) seeds q → IsWalk behind (unless but jump) seeds n now

pub along_begins : (but : ℕ) (jump : ℕ → Option ℕ) (q at : ℕ) (walk : Walk) → ((p : ℕ) → jump p ≡ Some q → p < at)
    → ((p : ℕ) → at ≡ suc p → jump p ≡ Some q) → Along but jump q at walk walk
along_begins but jump q at walk first leads = record {
  on = stays walk;
  there = λ p to high inside. absurd (let low = first p (unless_way but jump p q to) in omega (arith, low, high));
  leads = leads;
  is_walk = λ behind seeds n walk comes. walk;
}

pub along_on : (but : ℕ) (jump : ℕ → Option ℕ) (q s next : ℕ) (test : Bool) (old now new : Walk) → Along but jump q (suc s) old now → test ≡ not (s == but)
    → MarksIf test s now new → ((p : ℕ) → jump p ≡ Some q → p < s → p < next) → ((p : ℕ) → next ≡ suc p → jump p ≡ Some q) → Along but jump q next old new
along_on but jump q s next test old now new a is m below leads = record {
  on = both_on old now new a.on m.on;
  there = λ p to high inside. found p to high inside (same_or_other p s);
  leads = leads;
  is_walk = λ behind seeds n walk comes.
      m.walk behind (unless but jump) seeds n (a.is_walk behind seeds n walk comes) (λ t. jumps q (unless_there but jump s q (sym is ∙ t) (a.leads s refl)) comes);
}
  where
    found : (p : ℕ) → unless but jump p ≡ Some q → next ≤ p → p < length new.marks.items → (p ≡ s) ⊎ (p ≢ s) → is_in new.marks.items p ≡ true
    found p to high inside (inl same) =
        subst (λ (i : ℕ). is_in new.marks.items i ≡ true) (sym same)
        (m.there (is ∙ unless_other but jump s q (subst (λ (i : ℕ). unless but jump i ≡ Some q) same to)) (omega (arith, same, inside)))
    found p to high inside (inr apart) = past p to high inside apart (within_or_not p s)
      where
        past : (p : ℕ) → unless but jump p ≡ Some q → next ≤ p → p < length new.marks.items → p ≢ s → (p < s) ⊎ (s ≤ p) → is_in new.marks.items p ≡ true
        past p to high inside apart (inl low) = absurd (let less = below p (unless_way but jump p q to) low in omega (arith, less, high))
        past p to high inside apart (inr up) =
            let size = m.on.size in m.on.kept p (a.there p to (omega (arith, up, apart)) (omega (arith, size, inside)))

pub along_ends : (but : ℕ) (jump : ℕ → Option ℕ) (q : ℕ) (old now : Walk) → Along but jump q 0 old now → LooksAlong (unless but jump) q old now
along_ends but jump q old now a = record { on = a.on; there = λ p to inside. a.there p to (omega arith) inside; walk = a.is_walk }

-- both
pub looks : (by along : ℕ → Option ℕ) (q : ℕ) (old between new : Walk) → LooksBehind by q old between → LooksAlong along q between new → LooksBack by along q old new
looks by along q old between new one other = record {
  on = both_on old between new one.on other.on;
  behind = λ p leads inside. let size = other.on.size in other.on.kept p (one.there p leads (omega (arith, size, inside)));
  jump = λ p leads inside. other.there p leads inside;
  walk = λ seeds n walk comes. other.walk by seeds n (one.walk along seeds n walk comes) comes;
}

-- the seeds are marked
pub begins_none : (seeds : List Bool) (walk : Walk) → ((p : ℕ) → is_in walk.marks.items p ≡ false) → length walk.marks.items ≡ length seeds
    → count_by (λ mark. mark) walk.marks.items ≡ 0 → walk.queue.items ≡ [] → Begins seeds 0 walk
begins_none seeds walk none size count empty = record {
  is_walk = λ by along. record {
    size = size;
    marked = λ i inside. absurd (let e : length walk.queue.items ≡ 0 = ap length empty in omega (arith, e, inside));
    queued = λ slot known. clash (is_in walk.marks.items slot) known (none slot);
    once = count ∙ sym (ap length empty);
    sound = λ slot known. clash (is_in walk.marks.items slot) known (none slot);
  };
  here = λ p low inside known. absurd (omega (arith, low));
}

pub begins_on : (seeds : List Bool) (k : ℕ) (test : Bool) (old new : Walk) → test ≡ is_in seeds k → Begins seeds k old → MarksIf test k old new → Begins seeds (k + 1) new
begins_on seeds k test old new e b m = record {
  is_walk = λ by along. m.walk by along (is_in seeds) (length seeds) (b.is_walk by along) (λ t. here (sym e ∙ t));
  here = λ p low inside known. by_case p low inside known (same_or_other p k);
}
  where
    by_case : (p : ℕ) → p < k + 1 → p < length new.marks.items → is_in seeds p ≡ true → (p ≡ k) ⊎ (p ≢ k) → is_in new.marks.items p ≡ true
    by_case p low inside known (inl same) =
        subst (λ (i : ℕ). is_in new.marks.items i ≡ true) (sym same)
        (m.there (e ∙ subst (λ (i : ℕ). is_in seeds i ≡ true) same known) (omega (arith, same, inside)))
    by_case p low inside known (inr apart) =
        let size = m.on.size in m.on.kept p (b.here p (omega (arith, low, apart)) (omega (arith, size, inside)) known)

-- the first k in the queue have been looked back from
pub record HasLooked (by along : ℕ → Option ℕ) (seeds : ℕ → Bool) (n k : ℕ) (now : Walk) : Type 0 where
  pub is_walk : IsWalk by along seeds n now
  pub here : (p : ℕ) → p < n → seeds p ≡ true → is_in now.marks.items p ≡ true
  pub behind : (i p : ℕ) → i < k → i < length now.queue.items → by p ≡ Some (slice_index now.queue.items i) → p < n → is_in now.marks.items p ≡ true
  pub jump : (i p : ℕ) → i < k → i < length now.queue.items → along p ≡ Some (slice_index now.queue.items i) → p < n → is_in now.marks.items p ≡ true

pub has_begun : (by along : ℕ → Option ℕ) (seeds : List Bool) (n : ℕ) (walk : Walk) → length seeds ≡ n → Begins seeds (length seeds) walk → HasLooked by along (is_in seeds) n 0 walk
has_begun by along seeds n walk size b = record {
  is_walk = subst (λ (m : ℕ). IsWalk by along (is_in seeds) m walk) size (b.is_walk by along);
  here = λ p low known. let length = (b.is_walk by along).size in b.here p (omega (arith, size, low)) (omega (arith, size, length, low)) known;
  behind = λ i p low inside leads within. absurd (omega (arith, low));
  jump = λ i p low inside leads within. absurd (omega (arith, low));
}

pub has_looked : (by along : ℕ → Option ℕ) (seeds : ℕ → Bool) (n k slot : ℕ) (old new : Walk) → slot ≡ slice_index old.queue.items k → k < length old.queue.items
    → HasLooked by along seeds n k old → LooksBack by along slot old new → HasLooked by along seeds n (k + 1) new
has_looked by along seeds n k slot old new is inside known looks = record {
  is_walk = looks.walk seeds n known.is_walk (known.is_walk.sound slot (subst (λ (i : ℕ). is_in old.marks.items i ≡ true) (sym is) (known.is_walk.marked k inside)));
  here = λ p low seed. looks.on.kept p (known.here p low seed);
  behind = λ i p low within leads there. by_behind i p low leads there (same_or_other i k);
  jump = λ i p low within leads there. by_jump i p low leads there (same_or_other i k);
}
  where
    new_size : length new.marks.items ≡ n
    new_size = looks.on.size ∙ known.is_walk.size

    at_k : (i : ℕ) → i ≡ k → slice_index new.queue.items i ≡ slot
    at_k i same = ap (slice_index new.queue.items) same ∙ looks.on.begins k inside ∙ sym is

    by_behind : (i p : ℕ) → i < k + 1 → by p ≡ Some (slice_index new.queue.items i) → p < n → (i ≡ k) ⊎ (i ≢ k) → is_in new.marks.items p ≡ true
    by_behind i p low leads there (inl same) = looks.behind p (leads ∙ ap Some (at_k i same)) (omega (arith, new_size, there))
    by_behind i p low leads there (inr apart) =
        let before : i < length old.queue.items = omega (arith, low, apart, inside) in
        looks.on.kept p (known.behind i p (omega (arith, low, apart)) before (leads ∙ ap Some (looks.on.begins i before)) there)

    by_jump : (i p : ℕ) → i < k + 1 → along p ≡ Some (slice_index new.queue.items i) → p < n → (i ≡ k) ⊎ (i ≢ k) → is_in new.marks.items p ≡ true
    by_jump i p low leads there (inl same) = looks.jump p (leads ∙ ap Some (at_k i same)) (omega (arith, new_size, there))
    by_jump i p low leads there (inr apart) =
        let before : i < length old.queue.items = omega (arith, low, apart, inside) in
        looks.on.kept p (known.jump i p (omega (arith, low, apart)) before (leads ∙ ap Some (looks.on.begins i before)) there)

-- all have been
pub looked_all : (by along : ℕ → Option ℕ) (seeds : ℕ → Bool) (n k : ℕ) (walk : Walk) → HasLooked by along seeds n k walk → length walk.queue.items ≤ k
    → AreBack by along seeds n walk.marks.items
looked_all by along seeds n k walk known all = record {
  size = known.is_walk.size;
  here = known.here;
  on = λ p q within leads marked.
      let stands = known.is_walk.queued q marked in
      let low = stands.1 in
      known.behind stands.0 p (omega (arith, low, all)) low (leads ∙ ap Some (sym stands.2)) within;
  jumps = λ p q within leads marked.
      let stands = known.is_walk.queued q marked in
      let low = stands.1 in
      known.jump stands.0 p (omega (arith, low, all)) low (leads ∙ ap Some (sym stands.2)) within;
  sound = known.is_walk.sound;
}

pub few : (by along : ℕ → Option ℕ) (seeds : ℕ → Bool) (n : ℕ) (walk : Walk) → IsWalk by along seeds n walk → length walk.queue.items ≤ n
few by along seeds n walk known =
    let most = count_by-le-length (λ b. b) walk.marks.items in
    let once = known.once in
    let size = known.size in
    omega (arith, most, once, size)

pub in_program : (by along : ℕ → Option ℕ) (seeds : ℕ → Bool) (n k slot : ℕ) (walk : Walk) → IsWalk by along seeds n walk → k < length walk.queue.items
    → slot ≡ slice_index walk.queue.items k → slot < n
in_program by along seeds n k slot walk known inside same =
    let within = reached_within walk.marks.items (slice_index walk.queue.items k) (known.marked k inside) in
    let size = known.size in
    omega (arith, same, within, size)
