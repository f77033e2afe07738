-- Where a machine stands.
use Rattle.bpf_entries.specs.Status.{has_ended}
use Rattle.bpf_steps.specs.State.{State}
use Rattle.bpf_whynot.specs.declared.standing.Standing.{Standing}

abbrev pub standing : State → Standing
standing y = record { slot = y.pc; ended = has_ended y.status }
