-- A run as its steps.
use Rattle.std.specs.Prelude.{ℕ, zero, suc, if◌then◌else◌, List, [], ◌∷◌}
use Rattle.bpf_entries.specs.Status.{has_ended}
use Rattle.bpf_steps.specs.Next.{next}
use Rattle.bpf_steps.specs.State.{State}

-- The steps of a run of at most so many, each by the state from which it is taken.
abbrev pub steps_of : ℕ → State → List State
steps_of zero x = []
steps_of (suc limit) x = if has_ended x.status then [] else x ∷ steps_of limit (next x)
