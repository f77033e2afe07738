-- A run as its steps.
use Rattle.std.specs.Prelude.{◌≤◌, ℕ}
use Rattle.bpf_steps.specs.Runs.{Steps}
use Rattle.bpf_steps.specs.State.{State}
pub use Rattle.bpf_cover.specs.Runs.{steps_of}

-- A state that such a run comes by.
abbrev pub IsOnTheWay : ℕ → State → State → Type 0
IsOnTheWay limit x y = (n : ℕ) × (n ≤ limit) × Steps x y n

-- So many steps were taken, of at most so many.
pub record Takes (most : ℕ) (x y : State) (n : ℕ) : Type 0 where
  pub steps : Steps x y n
  pub within : n ≤ most
