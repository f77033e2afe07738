-- Steps one after another, and a run as their list.
use Rattle.std.proofs.Common.{◌≡◌, ◌+◌, ◌-◌, ◌≤◌, ℕ, zero, suc, min, Bool, true, false, List, [], ◌∷◌, drop, take, Option, Some, None, sym, ap, ◌∙◌, refl, arith, inl, inr}
use Rattle.std.specs.Prelude.{◌⊎◌, if◌then◌else◌}
use Rattle.std.proofs.lemmas.Bool.{cases_lt}
use Rattle.bpf_entries.specs.Status.{has_ended}
use Rattle.std.specs.Option.{option_map_or}
use Rattle.bpf_steps.specs.Calls.{innermost}
use Rattle.bpf_steps.specs.Next.{change, changed, next, returned}
use Rattle.bpf_steps.specs.declared.change.Change.{Change}
use Rattle.bpf_steps.specs.declared.change.Change.TheVariants.{Set, Go, Store, Fetch, Call, Return, Cell, Trace, Stop}
use Rattle.bpf_steps.specs.declared.frame.Frame.{Frame}
use Rattle.bpf_steps.specs.Runs.{state_after, Steps, Advances}
use Rattle.bpf_steps.specs.State.{State}
use Rattle.bpf_session.specs.Plain.{plain_end}
use Rattle.bpf_session.proofs.Advancing.{plain_is}
use Rattle.bpf_trace.specs.Runs.{steps_of, IsOnTheWay}

-- one step first is one step more
pub shift : (k : ℕ) (x : State) → state_after k (next x) ≡ state_after (suc k) x
shift zero x = refl
shift (suc k) x = ap next (shift k x)

state_add : (a b : ℕ) (x : State) → state_after b (state_after a x) ≡ state_after (a + b) x
state_add a zero x = let e : a ≡ a + zero = omega arith in ap (λ (n : ℕ). state_after n x) e
state_add a (suc b) x =
    let e : suc (a + b) ≡ a + suc b = omega arith in
    ap next (state_add a b x) ∙ ap (λ (n : ℕ). state_after n x) e

pub Steps-none : (x : State) → Steps x x 0
Steps-none x = record { state = refl; running = λ k low. absurd (omega (arith, low)) }

pub Steps-Steps : (x y z : State) (a b : ℕ) → Steps x y a → Steps y z b → Steps x z (a + b)
Steps-Steps x y z a b s t = record {
  state = t.state ∙ ap (state_after b) s.state ∙ state_add a b x;
  running = λ k low. elim (cases_lt k a) [
    | inl below ↦ s.running k below
    | inr past ↦
        let there : a + (k - a) ≡ k = omega (arith, past) in
        ap (λ (n : ℕ). has_ended (state_after n x).status) (sym there)
        ∙ ap (λ (w : State). has_ended w.status) (sym (state_add a (k - a) x))
        ∙ ap (λ (w : State). has_ended (state_after (k - a) w).status) (sym s.state)
        ∙ t.running (k - a) (omega (arith, low, past))
  ];
}

pub Steps-one : (x : State) → has_ended x.status ≡ false → Steps x (next x) 1
Steps-one x on = record {
  state = refl;
  running = λ k low. let e : k ≡ 0 = omega (arith, low) in ap (λ (n : ℕ). has_ended (state_after n x).status) e ∙ on;
}

pub Steps-more : (x y : State) (k : ℕ) → Steps x y k → has_ended y.status ≡ false → Steps x (next y) (k + 1)
Steps-more x y k s on = Steps-Steps x y (next y) k 1 s (Steps-one y on)

-- all but the first of some steps
Steps-tail : (x y : State) (n : ℕ) → Steps x y (suc n) → Steps (next x) y n
Steps-tail x y n s = record {
  state = s.state ∙ sym (shift n x);
  running = λ k low. ap (λ (w : State). has_ended w.status) (shift k x) ∙ s.running (suc k) (omega (arith, low));
}

-- the program stays
returned-program : (x : State) (found : Option Frame) → (option_map_or (returned x) found x).program ≡ x.program
returned-program x None = refl
returned-program x (Some f) = refl

changed-program : (x : State) (c : Change) → (changed x c).program ≡ x.program
unfolding changed
changed-program x (Set r value after) = refl
changed-program x (Go after) = refl
changed-program x (Store a at size value after) = refl
changed-program x (Fetch a at size value r after) = refl
changed-program x (Call to) = refl
changed-program x Return = returned-program x (innermost x)
changed-program x (Cell a from n after) = refl
changed-program x (Trace word after) = refl
changed-program x (Stop status) = refl

pub next-program : (x : State) → (next x).program ≡ x.program
next-program x = changed-program x (change x)

state_after-program : (k : ℕ) (x : State) → (state_after k x).program ≡ x.program
state_after-program zero x = refl
state_after-program (suc k) x = next-program (state_after k x) ∙ state_after-program k x

pub Steps-program : (x y : State) (n : ℕ) → Steps x y n → y.program ≡ x.program
Steps-program x y n s = ap (λ (z : State). z.program) s.state ∙ state_after-program n x

-- a machine that has ended takes no step
pub none_ended : (limit : ℕ) (x : State) → has_ended x.status ≡ true → steps_of limit x ≡ []
none_ended zero x over = refl
none_ended (suc limit) x over = rw over refl

pub none_left : (limit : ℕ) (x : State) → limit ≡ 0 → steps_of limit x ≡ []
none_left limit x e = ap (λ (n : ℕ). steps_of n x) e

-- one that runs takes one
pub one_more_step : (m n : ℕ) (x : State) → m ≡ suc n → has_ended x.status ≡ false → steps_of m x ≡ x ∷ steps_of n (next x)
one_more_step m n x e on = ap (λ (k : ℕ). steps_of k x) e ∙ rw on refl

-- without the first n
pub drop_steps : (n limit : ℕ) (x y : State) → Steps x y n → n ≤ limit → drop n (steps_of limit x) ≡ steps_of (limit - n) y
drop_steps zero limit x y s within =
    let e : limit ≡ limit - 0 = omega arith in
    ap (steps_of limit) (sym s.state) ∙ ap (λ (n : ℕ). steps_of n y) e
drop_steps (suc n) zero x y s within = absurd (omega (arith, within))
drop_steps (suc n) (suc limit) x y s within =
    let on : has_ended x.status ≡ false = s.running 0 (omega arith) in
    let e : limit - n ≡ suc limit - suc n = omega arith in
    ap (drop (suc n)) (one_more_step (suc limit) limit x refl on)
    ∙ drop_steps n limit (next x) y (Steps-tail x y n s) (omega (arith, within))
    ∙ ap (λ (m : ℕ). steps_of m y) e

-- the first so many
take_if : (c : ℕ) (b : Bool) (x : State) (rest : List State) → take (suc c) (if b then [] else x ∷ rest) ≡ (if b then [] else x ∷ take c rest)
take_if c true x rest = refl
take_if c false x rest = refl

pub take_steps : (c limit : ℕ) (x : State) → take c (steps_of limit x) ≡ steps_of (min c limit) x
take_steps zero limit x = let e : min 0 limit ≡ 0 = omega arith in sym (none_left (min 0 limit) x e)
take_steps (suc c) zero x = let e : min (suc c) 0 ≡ 0 = omega arith in sym (none_left (min (suc c) 0) x e)
take_steps (suc c) (suc limit) x =
    let e : suc (min c limit) ≡ min (suc c) (suc limit) = omega arith in
    take_if c (has_ended x.status) x (steps_of limit (next x))
    ∙ ap (λ (rest : List State). if has_ended x.status then [] else x ∷ rest) (take_steps c limit (next x))
    ∙ ap (λ (m : ℕ). steps_of m x) e

drop_nil : (n : ℕ) → drop {A = State} n [] ≡ []
drop_nil zero = refl
drop_nil (suc n) = refl

take_nil : (n : ℕ) → take {A = State} n [] ≡ []
take_nil zero = refl
take_nil (suc n) = refl

-- where no more are left
drop_past : (n s : ℕ) (xs : List State) → n ≤ s → drop n xs ≡ [] → drop s xs ≡ []
drop_past zero s xs low e = rw e (drop_nil s)
drop_past (suc n) s [] low e = drop_nil s
drop_past (suc n) zero (x ∷ xs) low e = absurd (omega (arith, low))
drop_past (suc n) (suc s) (x ∷ xs) low e = drop_past n s xs (omega (arith, low)) e

-- the steps that are shown, after those that were passed
pub shown_steps : (limit s count passed : ℕ) (x y : State) → Advances (min limit s) x y passed
    → ((passed ≡ s) × (take count (drop s (steps_of limit x)) ≡ steps_of (min (limit - passed) count) y))
    ⊎ ((take count (drop s (steps_of limit x)) ≡ []) × (steps_of (min (limit - passed) count) y ≡ []))
shown_steps limit s count passed x y run = elim (cases_lt passed s) [
  | inl below ↦
      let gone : steps_of (limit - passed) y ≡ [] = elim (cases_lt passed limit) [
        | inl short ↦ none_ended (limit - passed) y (run.all (omega (arith, short, below)))
        | inr all ↦ let e : limit - passed ≡ 0 = omega (arith, all) in none_left (limit - passed) y e
      ] in
      let cut = drop_steps passed limit x y run.steps (omega (arith, run.within)) in
      let empty = drop_past passed s (steps_of limit x) (omega (arith, below)) (cut ∙ gone) in
      let few : min count (limit - passed) ≡ min (limit - passed) count = omega arith in
      inr (
        ap (take count) empty ∙ take_nil count,
        ap (λ (m : ℕ). steps_of m y) (sym few) ∙ sym (take_steps count (limit - passed) y) ∙ ap (take count) gone ∙ take_nil count,
      )
  | inr reached ↦
      let e : passed ≡ s = omega (arith, run.within, reached) in
      let few : min count (limit - passed) ≡ min (limit - passed) count = omega arith in
      inl (
        e,
        ap (λ (n : ℕ). take count (drop n (steps_of limit x))) (sym e)
            ∙ ap (take count) (drop_steps passed limit x y run.steps (omega (arith, run.within)))
            ∙ take_steps count (limit - passed) y
            ∙ ap (λ (m : ℕ). steps_of m y) few,
      )
]

-- three stretches of a run
pub whole_run : (limit a b c left : ℕ) (x y z w : State) → Steps x y a → Steps y z b → a + b ≤ limit → left ≡ limit - a - b
    → Advances left z w c → Advances limit x w (a + b + c)
whole_run limit a b c left x y z w s t within e run = record {
  steps = Steps-Steps x z w (a + b) c (Steps-Steps x y z a b s t) run.steps;
  within = omega (arith, within, e, run.within);
  all = λ less. run.all (omega (arith, within, e, less));
}

pub whole_end : (limit n : ℕ) (x w : State) → Advances limit x w n → w ≡ plain_end limit x
whole_end limit n x w run = (plain_is limit x w n run).1

pub whole_way : (limit n : ℕ) (x w : State) → Advances limit x w n → IsOnTheWay limit x w
whole_way limit n x w run = (n, run.within, run.steps)
