-- What agreeing is, and the last step that wrote a place, in words of the steps themselves.
use Rattle.std.specs.Prelude.{◌≡◌, ◌≤◌, ◌<◌, ◌⊎◌, ℕ, suc, Bool, true, false, List, get_or, length}
use Rattle.bpf_steps.specs.Entries.{step_entry}
use Rattle.bpf_steps.specs.Next.{next}
use Rattle.bpf_steps.specs.State.{State}
use Rattle.bpf_origin.specs.Writes.{writes}
use Rattle.bpf_origin.specs.declared.place.Place.{Place}
use Rattle.bpf_diff.specs.Differences.{agreeing}
use Rattle.bpf_diff.specs.Outputs.{last_write}

-- As many first steps agree as can: each of them does; and behind them one of the runs is over, or the next steps don't.
pub record IsLongest (test : State → State → Bool) (xs ys : List State) : Type 0 where
  pub each : (k : ℕ) (d : State) → k < agreeing test xs ys → test (get_or xs k d) (get_or ys k d) ≡ true
  pub last : (agreeing test xs ys ≡ length xs) ⊎ (agreeing test xs ys ≡ length ys)
      ⊎ ((d : State) → test (get_or xs (agreeing test xs ys) d) (get_or ys (agreeing test xs ys) d) ≡ false)

abbrev pub AgreementsAreLongest : Type 0
AgreementsAreLongest = (test : State → State → Bool) (xs ys : List State) → IsLongest test xs ys

-- Whether a step writes a place.
abbrev pub is_write : Place → State → Bool
is_write p x = writes (next x) (step_entry x) p

-- The step of this number wrote a place, and none behind it did; and of the number 0 none of the steps did.
pub record IsLastWrite (p : Place) (xs : List State) (n : ℕ) : Type 0 where
  pub wrote : (k : ℕ) (d : State) → n ≡ suc k → (k < length xs) × (is_write p (get_or xs k d) ≡ true)
  pub since : (k : ℕ) (d : State) → n ≤ k → k < length xs → is_write p (get_or xs k d) ≡ false

abbrev pub WritesAreLast : Type 0
WritesAreLast = (p : Place) (xs : List State) → IsLastWrite p xs (last_write p xs)
