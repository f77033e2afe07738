-- Two runs in step.
use Rattle.std.proofs.Common.{◌≡◌, ◌+◌, ◌-◌, ◌<◌, ◌≤◌, ℕ, zero, suc, Bool, true, false, not, List, [], ◌∷◌, refl, sym, ap, ap₂, ◌∙◌, arith, inl, inr}
use Rattle.std.specs.Prelude.{◌&&◌, ◌==◌, if◌then◌else◌, length}
use Rattle.std.proofs.lemmas.Bool.{and_parts, cases_eq, not-true}
use Rattle.std.proofs.lemmas.Bool.Decides.{nat_tests}
use Rattle.bpf_entries.specs.Status.{has_ended}
use Rattle.bpf_isa.specs.Programs.{IsStart}
use Rattle.bpf_steps.specs.Next.{next}
use Rattle.bpf_steps.specs.Runs.{Advances, Steps}
use Rattle.bpf_steps.specs.State.{State}
use Rattle.bpf_trace.specs.Runs.{steps_of}
use Rattle.bpf_trace.specs.Taken.{Took}
use Rattle.bpf_trace.specs.declared.taken.Taken.{Taken}
use Rattle.bpf_trace.proofs.Stepping.{Steps-none, Steps-more, Steps-one, next-program, shift, none_left, one_more_step, whole_run}
use Rattle.bpf_diff.specs.Alike.{alike, same_slot, same_writes}
use Rattle.bpf_diff.specs.Differences.{agreeing}
use Rattle.bpf_diff.specs.Following.{Along, Goes, GoesAlike, are_together}

-- what standing together is
pub together-parts : (x y : State) → are_together x y ≡ true
    → (has_ended x.status ≡ false) × (has_ended y.status ≡ false) × (same_slot x y ≡ true)
together-parts x y is =
    let one = and_parts (not (has_ended x.status)) (not (has_ended y.status) && same_slot x y) is in
    let two = and_parts (not (has_ended y.status)) (same_slot x y) one.1 in
    (not-true (has_ended x.status) one.0, not-true (has_ended y.status) two.0, two.1)

module _ (test : State → State → Bool) where
  none_of : (xs : List State) → agreeing test xs [] ≡ 0
  none_of [] = refl
  none_of (x ∷ xs) = refl

  agree-more : (m n : ℕ) (a b : State) → m ≡ suc n → has_ended a.status ≡ false → has_ended b.status ≡ false → test a b ≡ true
      → agreeing test (steps_of m a) (steps_of m b) ≡ suc (agreeing test (steps_of n (next a)) (steps_of n (next b)))
  agree-more m n a b e on other is = ap₂ (agreeing test) (one_more_step m n a e on) (one_more_step m n b e other) ∙ rw is refl

  -- heads that differ, or that there aren't
  differ-if : (p q : Bool) (a b : State) (us vs : List State) → test a b ≡ false
      → agreeing test (if p then [] else a ∷ us) (if q then [] else b ∷ vs) ≡ 0
  differ-if true q a b us vs is = refl
  differ-if false true a b us vs is = refl
  differ-if false false a b us vs is = rw is refl

  pub agree-differ : (m : ℕ) (a b : State) → test a b ≡ false → agreeing test (steps_of m a) (steps_of m b) ≡ 0
  agree-differ zero a b is = refl
  agree-differ (suc m) a b is = differ-if (has_ended a.status) (has_ended b.status) a b (steps_of m (next a)) (steps_of m (next b)) is

  apart-if : (p q r : Bool) (a b : State) (us vs : List State) → (not p && (not q && r)) ≡ false → (r ≡ false → test a b ≡ false)
      → agreeing test (if p then [] else a ∷ us) (if q then [] else b ∷ vs) ≡ 0
  apart-if true q r a b us vs isnt falls = refl
  apart-if false true r a b us vs isnt falls = refl
  apart-if false false r a b us vs isnt falls = rw (falls isnt) refl

  pub agree-apart : (m : ℕ) (a b : State) → (same_slot a b ≡ false → test a b ≡ false) → are_together a b ≡ false
      → agreeing test (steps_of m a) (steps_of m b) ≡ 0
  agree-apart zero a b falls isnt = refl
  agree-apart (suc m) a b falls isnt =
      apart-if (has_ended a.status) (has_ended b.status) (same_slot a b) a b (steps_of m (next a)) (steps_of m (next b)) isnt falls

  pub agree-over : (m : ℕ) (a b : State) → m ≡ 0 → agreeing test (steps_of m a) (steps_of m b) ≡ 0
  agree-over m a b e = ap (λ (xs : List State). agreeing test xs (steps_of m b)) (none_left m a e)

  module _ (limit : ℕ) (x y : State) where
    pub Along-start : Along test limit x y x y 0
    Along-start =
        let e : limit - 0 ≡ limit = omega arith in
        record {
          first = Steps-none x;
          second = Steps-none y;
          within = omega arith;
          rest = let same = ap (λ (m : ℕ). agreeing test (steps_of m x) (steps_of m y)) e in omega (arith, same);
        }

    pub Along-step : (a b : State) (k : ℕ) → Along test limit x y a b k → k < limit → are_together a b ≡ true → test a b ≡ true
        → Along test limit x y (next a) (next b) (k + 1)
    Along-step a b k g low both is =
        let parts = together-parts a b both in
        let e : limit - k ≡ suc (limit - (k + 1)) = omega (arith, low) in
        let more = agree-more (limit - k) (limit - (k + 1)) a b e parts.0 parts.1 is in
        let all = g.rest in
        record {
          first = Steps-more x a k g.first parts.0;
          second = Steps-more y b k g.second parts.1;
          within = omega (arith, low);
          rest = omega (arith, more, all);
        }

    pub Along-stop : (a b : State) (k : ℕ) → Along test limit x y a b k → agreeing test (steps_of (limit - k) a) (steps_of (limit - k) b) ≡ 0
        → Goes test limit x y a b k
    Along-stop a b k g none = let all = g.rest in record { along = g; agreed = omega (arith, all, none) }

    pub Along-all : (a b : State) (k : ℕ) → Along test limit x y a b k → limit ≤ k → Goes test limit x y a b k
    Along-all a b k g all =
        let e : limit - k ≡ 0 = omega (arith, all) in
        Along-stop a b k g (agree-over (limit - k) a b e)

-- by their slots
pub slots-apart : (limit : ℕ) (x y a b : State) (k : ℕ) → Along same_slot limit x y a b k → are_together a b ≡ false
    → Goes same_slot limit x y a b k
slots-apart limit x y a b k g isnt = Along-stop same_slot limit x y a b k g (agree-apart same_slot (limit - k) a b (λ e. e) isnt)

-- alike, so at one slot
alike-falls : (a b : State) → same_slot a b ≡ false → alike a b ≡ false
alike-falls a b e = ap (λ (t : Bool). t && same_writes a b) e

pub alike-is : (a b : State) → are_together a b ≡ true → same_writes a b ≡ true → alike a b ≡ true
alike-is a b both is = let parts = together-parts a b both in ap₂ (λ (s t : Bool). s && t) parts.2 is

pub alike-isnt : (a b : State) → are_together a b ≡ true → same_writes a b ≡ false → alike a b ≡ false
alike-isnt a b both is = let parts = together-parts a b both in ap₂ (λ (s t : Bool). s && t) parts.2 is

-- both kinds at once
pub record Both (limit : ℕ) (x y a b : State) (k : ℕ) : Type 0 where
  pub alike : Along alike limit x y a b k
  pub together : Along same_slot limit x y a b k

module _ (limit : ℕ) (x y : State) where
  pub Both-start : Both limit x y x y 0
  Both-start = record { alike = Along-start alike limit x y; together = Along-start same_slot limit x y }

  module _ (a b : State) (k : ℕ) (g : Both limit x y a b k) where
    pub Both-step : k < limit → are_together a b ≡ true → same_writes a b ≡ true → Both limit x y (next a) (next b) (k + 1)
    Both-step low both is = record {
      alike = Along-step alike limit x y a b k g.alike low both (alike-is a b both is);
      together = Along-step same_slot limit x y a b k g.together low both (together-parts a b both).2;
    }

    pub Both-apart : are_together a b ≡ false → GoesAlike limit x y a b k
    Both-apart isnt = record {
      alike = Along-stop alike limit x y a b k g.alike (agree-apart alike (limit - k) a b (alike-falls a b) isnt);
      together = g.together;
    }

    pub Both-all : limit ≤ k → GoesAlike limit x y a b k
    Both-all all = record { alike = Along-all alike limit x y a b k g.alike all; together = g.together }

    pub Both-differ : are_together a b ≡ true → same_writes a b ≡ false → GoesAlike limit x y a b k
    Both-differ both is = record {
      alike = Along-stop alike limit x y a b k g.alike (agree-differ alike (limit - k) a b (alike-isnt a b both is));
      together = g.together;
    }

-- where a step that was taken stood
pub took-start : (x y : State) (taken : Taken) → Took x y taken → IsStart y.program taken.slot
took-start x y taken t = rw (t.next, next-program x, t.slot) t.is.start

-- one step, and the rest of a run
pub step-rest : (left c : ℕ) (x a w : State) (taken : Taken) → Took x a taken → has_ended x.status ≡ false → 0 < left → Advances (left - 1) a w c
    → Advances left x w (1 + 0 + c)
step-rest left c x a w taken t on some run =
    let one : Steps x a 1 = rw t.next (Steps-one x on) in
    whole_run left 1 0 c (left - 1) x a a w one (Steps-none a) (omega (arith, some)) (omega arith) run

-- none is left
pub stand-still : (left : ℕ) (x : State) → (0 < left → has_ended x.status ≡ true) → Advances left x x 0
stand-still left x over = record { steps = Steps-none x; within = omega arith; all = over }

-- how many are left
tail : (x a : State) (n : ℕ) → Steps x a (suc n) → Steps (next x) a n
tail x a n s = record {
  state = s.state ∙ sym (shift n x);
  running = λ k low. ap (λ (w : State). has_ended w.status) (shift k x) ∙ s.running (suc k) (omega (arith, low));
}

pub count_left : (n limit : ℕ) (x a : State) → Steps x a n → n ≤ limit → length (steps_of limit x) ≡ n + length (steps_of (limit - n) a)
count_left zero limit x a s within =
    let e : limit - 0 ≡ limit = omega arith in
    let one : length (steps_of limit a) ≡ length (steps_of limit x) = ap (λ (z : State). length (steps_of limit z)) s.state in
    let two = ap (λ (m : ℕ). length (steps_of m a)) e in
    omega (arith, one, two)
count_left (suc n) zero x a s within = absurd (omega (arith, within))
count_left (suc n) (suc limit) x a s within =
    let on : has_ended x.status ≡ false = s.running 0 (omega arith) in
    let e : limit - n ≡ suc limit - suc n = omega arith in
    let one : length (steps_of (suc limit) x) ≡ suc (length (steps_of limit (next x))) = ap length (one_more_step (suc limit) limit x refl on) in
    let two = count_left n limit (next x) a (tail x a n s) (omega (arith, within)) in
    let three = ap (λ (m : ℕ). length (steps_of m a)) e in
    omega (arith, one, two, three)

-- so many are all just if none is left
pub all-if-none : (n z whole : ℕ) → whole ≡ n + z → (n == whole) ≡ (z == 0)
all-if-none n z whole e = elim (cases_eq z 0) [
  | inl none ↦
      let a : (n == whole) ≡ true = grind (arith, nat_tests, e, none) in
      let b : (z == 0) ≡ true = grind (arith, nat_tests, none) in
      a ∙ sym b
  | inr some ↦
      let a : (n == whole) ≡ false = grind (arith, nat_tests, e, some) in
      let b : (z == 0) ≡ false = grind (arith, nat_tests, some) in
      a ∙ sym b
]

pub same-number : (m n k : ℕ) → m ≡ k → n ≡ k → (m == n) ≡ true
same-number m n k e f = grind (arith, nat_tests, e, f)

pub other-number : (m n k : ℕ) → m ≡ k → k < n → (m == n) ≡ false
other-number m n k e f = grind (arith, nat_tests, e, f)
