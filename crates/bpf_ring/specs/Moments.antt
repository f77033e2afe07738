-- A machine's state beside what keeps the moves that led to it.
use Rattle.bpf_steps.specs.State.{State}

pub record Moment (K : Type 0) : Type 0 where
  pub state : State
  pub keeper : K

abbrev pub beside : {K : Type 0} → State → K → Moment K
beside state keeper = record { state = state; keeper = keeper }
