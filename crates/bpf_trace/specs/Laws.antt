-- What the steps of a run are, in the words of a run without history.
use Rattle.std.specs.Prelude.{◌≡◌, ◌<◌, ℕ, length, get_or}
use Rattle.bpf_steps.specs.State.{State}
use Rattle.bpf_ring.specs.Runs.{state_after}
use Rattle.bpf_session.specs.Plain.{plain_steps}
use Rattle.bpf_trace.specs.Runs.{steps_of}

-- They are as many as the run takes, and the k-th is taken from the state after k - 1 others.
pub record AreTheRuns (limit : ℕ) (x : State) : Type 0 where
  pub count : length (steps_of limit x) ≡ plain_steps limit x
  pub each : (k : ℕ) (d : State) → k < plain_steps limit x → get_or (steps_of limit x) k d ≡ state_after k x

abbrev pub StepsAreTheRuns : Type 0
StepsAreTheRuns = (limit : ℕ) (x : State) → AreTheRuns limit x
