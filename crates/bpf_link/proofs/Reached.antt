-- A walk over the slots that are reached.
use Rattle.std.proofs.Common.{◌≡◌, ◌≢◌, ◌<◌, ◌≤◌, ◌⊎◌, inl, inr, ℕ, zero, suc, ◌+◌, ◌-◌, ◌*◌, ◌/◌, ◌==◌, Bool, true, false, List, [], ◌∷◌, ◌++◌, length, get_or, refl, sym, ap, ◌∙◌, subst, arith, length-append, length-set}
use Rattle.std.specs.Prelude.{slice_set, slice_index, count_by, cond, ◌&&◌, ◌||◌}
use Rattle.std.proofs.lemmas.List.{get_or-set_same, get_or-set_other, get_or-append_right, get_or_append_left}
use Rattle.std.proofs.lemmas.List.Sums.{sum_by-set, count_by-le-length}
use Rattle.std.proofs.lemmas.Grind.{common_steps}
use Rattle.bpf_link.specs.declared.reach.Walk.{Walk}
use Rattle.bpf_link.specs.Reach.{IsClosed, IsReach, goes_on, is_reached, jumps, leads, opcode_at, registers_at, target_of}
use Rattle.bpf_link.specs.ReachSteps.{ComesTo, GoesFrom, GoesOn, IsCertain, IsDone, IsWalk, LooksAt, StandsIn}

same_or_other : (i j : ℕ) → (i ≡ j) ⊎ (i ≢ j)
same_or_other i j = grind arith

within_or_not : (i n : ℕ) → (i < n) ⊎ (n ≤ i)
within_or_not i n = grind arith

clash : {A : Type 0} (b : Bool) → b ≡ true → b ≡ false → A
clash b t f = absurd (differ (sym t ∙ f))
  where
    differ : ◌≡◌ {A = Bool} true false → ⊥
    differ e = cc

-- nothing behind a list is marked
reached_within : (reach : List Bool) (slot : ℕ) → is_reached reach slot ≡ true → slot < length reach
reached_within [] slot e = absurd (differ e)
  where
    differ : ◌≡◌ {A = Bool} false true → ⊥
    differ e = cc
reached_within (b ∷ reach) zero e = grind arith
reached_within (b ∷ reach) (suc slot) e = let rest = reached_within reach slot e in grind arith

-- one more mark
counted : (reach : List Bool) (slot : ℕ) → slot < length reach → is_reached reach slot ≡ false → count_by (λ b. b) (slice_set reach slot true) ≡ count_by (λ b. b) reach + 1
counted reach slot inside fresh =
    let sums = sum_by-set (λ b. cond b 1 0) reach slot true false inside in
    let none : ◌≡◌ {A = ℕ} (cond (get_or reach slot false) 1 0) 0 = ap (λ b. cond b 1 0) fresh in
    omega (arith, sums, none)

-- a slot that isn't marked yet becomes marked, and stands in the queue
pub record Marks (old new : Walk) (slot : ℕ) : Type 0 where
  pub inside : slot < length old.reach.items
  pub fresh : is_reached old.reach.items slot ≡ false
  pub reach : new.reach.items ≡ slice_set old.reach.items slot true
  pub queue : new.queue.items ≡ old.queue.items ++ slot ∷ []

marked_size : (old new : Walk) (slot : ℕ) → Marks old new slot → length new.reach.items ≡ length old.reach.items
marked_size old new slot m = ap length m.reach ∙ length-set old.reach.items slot true

marked_here : (old new : Walk) (slot : ℕ) → Marks old new slot → is_reached new.reach.items slot ≡ true
marked_here old new slot m = ap (λ reach. is_reached reach slot) m.reach ∙ get_or-set_same old.reach.items slot true false m.inside

marked_other : (old new : Walk) (slot other : ℕ) → Marks old new slot → other ≢ slot → is_reached new.reach.items other ≡ is_reached old.reach.items other
marked_other old new slot other m apart = ap (λ reach. is_reached reach other) m.reach ∙ get_or-set_other old.reach.items slot other true false apart

queue_size : (old new : Walk) (slot : ℕ) → Marks old new slot → length new.queue.items ≡ length old.queue.items + 1
queue_size old new slot m = ap length m.queue ∙ length-append old.queue.items (slot ∷ [])

queue_begins : (old new : Walk) (slot i : ℕ) → Marks old new slot → i < length old.queue.items → slice_index new.queue.items i ≡ slice_index old.queue.items i
queue_begins old new slot i m inside = ap (λ queue. slice_index queue i) m.queue ∙ get_or_append_left old.queue.items (slot ∷ []) 0 i inside

queue_ends : (old new : Walk) (slot i : ℕ) → Marks old new slot → i ≡ length old.queue.items → slice_index new.queue.items i ≡ slot
queue_ends old new slot i m last =
    let rest : i - length old.queue.items ≡ 0 = omega (arith, last) in
    ap (λ queue. slice_index queue i) m.queue ∙ get_or-append_right old.queue.items (slot ∷ []) (length old.queue.items) i 0 refl (omega (arith, last))
    ∙ ap (λ k. get_or (slot ∷ []) k 0) rest

marked_on : (old new : Walk) (slot : ℕ) → Marks old new slot → GoesOn old new
marked_on old new slot m = record {
  kept = λ other known. by_case other known (same_or_other other slot);
  size = marked_size old new slot m;
  longer = let size = queue_size old new slot m in omega (arith, size);
  begins = λ i inside. queue_begins old new slot i m inside;
}
  where
    by_case : (other : ℕ) → is_reached old.reach.items other ≡ true → (other ≡ slot) ⊎ (other ≢ slot) → is_reached new.reach.items other ≡ true
    by_case other known (inl same) = clash (is_reached old.reach.items slot) (subst (λ n. is_reached old.reach.items n ≡ true) same known) m.fresh
    by_case other known (inr apart) = marked_other old new slot other m apart ∙ known

marked_walk : (old new : Walk) (slot : ℕ) → Marks old new slot → (words : List ℕ) (entry : ℕ) → IsWalk words entry old → IsCertain words entry slot → IsWalk words entry new
marked_walk old new slot m words entry walk certain = record {
  size = marked_size old new slot m ∙ walk.size;
  marked = λ i inside. in_queue i (within_or_not i (length old.queue.items)) inside;
  queued = λ other known. stands other known (same_or_other other slot);
  once = ap (count_by (λ b. b)) m.reach ∙ counted old.reach.items slot m.inside m.fresh ∙ ap (λ n. n + 1) walk.once ∙ sym (queue_size old new slot m);
  least = λ set closed other known. in_set set closed other known (same_or_other other slot);
}
  where
    in_queue : (i : ℕ) → (i < length old.queue.items) ⊎ (length old.queue.items ≤ i) → i < length new.queue.items → is_reached new.reach.items (slice_index new.queue.items i) ≡ true
    in_queue i (inl before) inside =
        subst (λ n. is_reached new.reach.items n ≡ true) (sym (queue_begins old new slot i m before)) ((marked_on old new slot m).kept (slice_index old.queue.items i) (walk.marked i before))
    in_queue i (inr behind) inside =
        let size = queue_size old new slot m in
        subst (λ n. is_reached new.reach.items n ≡ true) (sym (queue_ends old new slot i m (omega (arith, size)))) (marked_here old new slot m)

    stands : (other : ℕ) → is_reached new.reach.items other ≡ true → (other ≡ slot) ⊎ (other ≢ slot) → StandsIn new.queue.items other
    stands other known (inl same) =
        let size = queue_size old new slot m in
        (length old.queue.items, omega (arith, size), queue_ends old new slot (length old.queue.items) m refl ∙ sym same)
    stands other known (inr apart) =
        let size = queue_size old new slot m in
        let before = walk.queued other (sym (marked_other old new slot other m apart) ∙ known) in
        let inside = before.1 in
        (before.0, omega (arith, size, inside), queue_begins old new slot before.0 m before.1 ∙ before.2)

    in_set : (set : ℕ → Bool) → IsClosed words entry set → (other : ℕ) → is_reached new.reach.items other ≡ true → (other ≡ slot) ⊎ (other ≢ slot) → set other ≡ true
    in_set set closed other known (inl same) = ap set same ∙ certain set closed
    in_set set closed other known (inr apart) = walk.least set closed other (sym (marked_other old new slot other m apart) ∙ known)

pub marks : (old new : Walk) (slot : ℕ) → Marks old new slot → ComesTo slot old new
marks old new slot m = record { on = marked_on old new slot m; there = λ inside. marked_here old new slot m; walk = λ words entry walk certain. marked_walk old new slot m words entry walk certain }

-- a walk that stays
pub stays : (walk : Walk) → GoesOn walk walk
stays walk = record { kept = λ slot known. known; size = refl; longer = omega arith; begins = λ i inside. refl }

pub comes_nowhere : (walk : Walk) (slot : ℕ) → (slot < length walk.reach.items → is_reached walk.reach.items slot ≡ true) → ComesTo slot walk walk
comes_nowhere walk slot there = record { on = stays walk; there = there; walk = λ words entry known certain. known }

-- what an instruction does
goes : (words : List ℕ) (slot next : ℕ) (old new : Walk) → ComesTo next old new → GoesFrom words slot next true old new
goes words slot next old new comes = record { on = comes.on; there = λ test inside. comes.there inside; walk = λ entry walk certain. comes.walk words entry walk (certain refl) }

pub goes_not : (words : List ℕ) (slot next : ℕ) (walk : Walk) → GoesFrom words slot next false walk walk
goes_not words slot next walk = record { on = stays walk; there = λ test inside. absurd (differ test); walk = λ entry known certain. known }
  where
    differ : ◌≡◌ {A = Bool} false true → ⊥
    differ e = cc

pub goes_where : (words : List ℕ) (slot next : ℕ) (test : Bool) (old new : Walk) → test ≡ true → ComesTo next old new → GoesFrom words slot next test old new
goes_where words slot next test old new e comes = subst (λ t. GoesFrom words slot next t old new) (sym e) (goes words slot next old new comes)

-- where it leads
one_of : (goes jumps : Bool) (next after to : ℕ) → ((goes && (next == after)) || (jumps && (next == to))) ≡ true → ((goes ≡ true) × (next ≡ after)) ⊎ ((jumps ≡ true) × (next ≡ to))
one_of goes jumps next after to e = grind (arith, common_steps)

on_leads : (a b : Bool) (next : ℕ) → a ≡ true → ((a && (next == next)) || b) ≡ true
on_leads a b next e = grind (arith, common_steps)

jump_leads : (a b : Bool) (next : ℕ) → b ≡ true → (a || (b && (next == next))) ≡ true
jump_leads a b next e = grind (arith, common_steps)

both_on : (old between new : Walk) → GoesOn old between → GoesOn between new → GoesOn old new
both_on old between new a b = record {
  kept = λ slot known. b.kept slot (a.kept slot known);
  size = b.size ∙ a.size;
  longer = let x = a.longer in let y = b.longer in omega (arith, x, y);
  begins = λ i inside. let x = a.longer in b.begins i (omega (arith, x)) ∙ a.begins i inside;
}

pub looks : (words : List ℕ) (slot : ℕ) (old between new : Walk)
    → GoesFrom words slot (slot + 1) (goes_on (opcode_at words slot)) old between
    → GoesFrom words slot (target_of words slot) (jumps (opcode_at words slot) (registers_at words slot)) between new
    → LooksAt words slot old new
looks words slot old between new on jump = record {
  on = both_on old between new on.on jump.on;
  done = λ next leads inside.
      found next inside (one_of (goes_on (opcode_at words slot)) (jumps (opcode_at words slot) (registers_at words slot)) next (slot + 1) (target_of words slot) leads);
  walk = λ entry walk known.
      jump.walk entry
      (on.walk entry walk (λ test set closed. closed.goes slot (slot + 1) (walk.least set closed slot known) (on_leads (goes_on (opcode_at words slot)) _ (slot + 1) test)))
      (λ test set closed. closed.goes slot (target_of words slot) (walk.least set closed slot known) (jump_leads _ (jumps (opcode_at words slot) (registers_at words slot)) (target_of words slot) test));
}
  where
    found : (next : ℕ) → next < length new.reach.items
        → ((goes_on (opcode_at words slot) ≡ true) × (next ≡ slot + 1)) ⊎ ((jumps (opcode_at words slot) (registers_at words slot) ≡ true) × (next ≡ target_of words slot))
        → is_reached new.reach.items next ≡ true
    found next inside (inl goes) =
        let size = jump.on.size in
        subst (λ n. is_reached new.reach.items n ≡ true) (sym goes.1) (jump.on.kept (slot + 1) (on.there goes.0 (let same = goes.1 in omega (arith, size, same, inside))))
    found next inside (inr jumps) =
        subst (λ n. is_reached new.reach.items n ≡ true) (sym jumps.1) (jump.there jumps.0 (subst (λ n. n < length new.reach.items) jumps.1 inside))

-- the first k in the queue have been looked at
pub record HasLooked (words : List ℕ) (entry k : ℕ) (now : Walk) : Type 0 where
  pub walk : IsWalk words entry now
  pub begins : entry < length now.reach.items → is_reached now.reach.items entry ≡ true
  pub done : (i : ℕ) → i < k → i < length now.queue.items → IsDone words now.reach.items (slice_index now.queue.items i)

pub has_begun : (words : List ℕ) (entry : ℕ) (old new : Walk) → IsWalk words entry old → ComesTo entry old new → HasLooked words entry 0 new
has_begun words entry old new walk comes = record {
  walk = comes.walk words entry walk (λ set closed. closed.begins);
  begins = comes.there;
  done = λ i low inside. absurd (omega arith);
}

still_done : (words : List ℕ) (old new : Walk) (slot : ℕ) → GoesOn old new → IsDone words old.reach.items slot → IsDone words new.reach.items slot
still_done words old new slot on done = λ next leads inside. let size = on.size in on.kept next (done next leads (omega (arith, size, inside)))

one_more : (words : List ℕ) (entry k : ℕ) (old new : Walk) → k < length old.queue.items → HasLooked words entry k old → LooksAt words (slice_index old.queue.items k) old new → HasLooked words entry (k + 1) new
one_more words entry k old new inside known looks = record {
  walk = looks.walk entry known.walk (known.walk.marked k inside);
  begins = λ within. let size = looks.on.size in looks.on.kept entry (known.begins (omega (arith, size, within)));
  done = λ i low within. by_case i (same_or_other i k) low;
}
  where
    by_case : (i : ℕ) → (i ≡ k) ⊎ (i ≢ k) → i < k + 1 → IsDone words new.reach.items (slice_index new.queue.items i)
    by_case i (inl same) low =
        subst (IsDone words new.reach.items) (sym (ap (slice_index new.queue.items) same ∙ looks.on.begins k inside)) looks.done
    by_case i (inr other) low =
        let before : i < length old.queue.items = omega arith in
        subst (IsDone words new.reach.items) (sym (looks.on.begins i before)) (still_done words old new (slice_index old.queue.items i) looks.on (known.done i (omega (arith, other)) before))

-- all have been
pub reached_all : (words : List ℕ) (entry k : ℕ) (walk : Walk) → HasLooked words entry k walk → length walk.queue.items ≤ k → IsReach words entry walk.reach.items
reached_all words entry k walk known all = record {
  size = known.walk.size;
  begins = known.begins;
  goes = λ slot next reached leads inside.
      let stands = known.walk.queued slot reached in
      let within = stands.1 in
      known.done stands.0 (omega (arith, within, all)) stands.1 next (subst (λ n. leads_from n next) (sym stands.2) leads) inside;
  least = known.walk.least;
}
  where
    leads_from : ℕ → ℕ → Type 0
    leads_from slot next = ◌≡◌ {A = Bool} (leads words slot next) true

pub few : (words : List ℕ) (entry : ℕ) (walk : Walk) → IsWalk words entry walk → length walk.queue.items ≤ length words / 8
few words entry walk known =
    let most = count_by-le-length (λ b. b) walk.reach.items in
    let once = known.once in
    let size = known.size in
    omega (arith, most, once, size)

pub in_words : (words : List ℕ) (entry k slot : ℕ) (walk : Walk) → IsWalk words entry walk → k < length walk.queue.items → slot ≡ slice_index walk.queue.items k → 8 * slot + 8 ≤ length words
in_words words entry k slot walk known inside same =
    let within = reached_within walk.reach.items (slice_index walk.queue.items k) (known.marked k inside) in
    let size = known.size in
    omega (arith, same, within, size)

pub one_looked : (words : List ℕ) (entry k slot : ℕ) (old new : Walk) → slot ≡ slice_index old.queue.items k → k < length old.queue.items → HasLooked words entry k old → LooksAt words slot old new → HasLooked words entry (k + 1) new
one_looked words entry k slot old new same inside known looks = one_more words entry k old new inside known (subst (λ n. LooksAt words n old new) same looks)
