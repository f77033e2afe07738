-- The last step that wrote a place.
use Rattle.std.proofs.Common.{◌≡◌, ◌≤◌, ◌<◌, ℕ, zero, suc, Bool, true, false, List, [], ◌∷◌, get_or, length, refl, arith}
use Rattle.bpf_steps.specs.State.{State}
use Rattle.bpf_origin.specs.declared.place.Place.{Place}
use Rattle.bpf_diff.specs.Laws.{IsLastWrite, WritesAreLast, is_write}
use Rattle.bpf_diff.specs.Outputs.{last_write, later}

module _ (p : Place) (x : State) (xs : List State) where
  -- Behind the first step.
  since-first : (m : ℕ) → IsLastWrite p xs m → (k : ℕ) (d : State) → suc m ≤ k → k < suc (length xs) → is_write p (get_or (x ∷ xs) k d) ≡ false
  since-first m rest zero d low short = absurd (omega (arith, low))
  since-first m rest (suc k) d low short = rest.since k d (omega (arith, low)) (omega (arith, short))

  -- From the first step on.
  in-none : is_write p x ≡ false → IsLastWrite p xs 0 → (k : ℕ) (d : State) → k < suc (length xs) → is_write p (get_or (x ∷ xs) k d) ≡ false
  in-none e rest zero d short = e
  in-none e rest (suc k) d short = rest.since k d (omega (arith, short)) (omega (arith, short))

  first-alone : is_write p x ≡ true → (k : ℕ) (d : State) → 1 ≡ suc k → (k < suc (length xs)) × (is_write p (get_or (x ∷ xs) k d) ≡ true)
  first-alone e zero d one = (omega arith, e)
  first-alone e (suc k) d one = absurd (omega (arith, one))

  in-rest : (m : ℕ) → IsLastWrite p xs (suc m) → (k : ℕ) (d : State) → suc (suc m) ≡ suc k
      → (k < suc (length xs)) × (is_write p (get_or (x ∷ xs) k d) ≡ true)
  in-rest m rest zero d one = absurd (omega (arith, one))
  in-rest m rest (suc k) d one =
      let found = rest.wrote k d (omega (arith, one)) in
      (omega (arith, found.0), found.1)

  latest : (m : ℕ) (here : Bool) → is_write p x ≡ here → IsLastWrite p xs m → IsLastWrite p (x ∷ xs) (later m here)
  latest zero false e rest = record { wrote = λ k d one. absurd (omega (arith, one)); since = λ k d low short. in-none e rest k d short }
  latest zero true e rest = record { wrote = first-alone e; since = since-first 0 rest }
  latest (suc m) here e rest = record { wrote = in-rest m rest; since = since-first (suc m) rest }

pub law_latest : WritesAreLast
unfolding last_write
law_latest p [] =
    let none : last_write p [] ≡ 0 = refl in
    record { wrote = λ k d one. absurd (omega (arith, one, none)); since = λ k d low short. absurd (omega (arith, short)) }
law_latest p (x ∷ xs) = latest p x xs (last_write p xs) (is_write p x) refl (law_latest p xs)
