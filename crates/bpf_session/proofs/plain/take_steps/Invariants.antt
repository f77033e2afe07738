use Rattle.std.proofs.Common.{◌≤◌, ◌-◌}
use Rattle.bpf_steps.specs.Runs.{Steps}
use Rattle.bpf_session.proofs.plain.take_steps.Given as goal

abbrev pub invariant-loop-taken : goal.invariant-loop-taken
invariant-loop-taken l = record { steps : Steps l.fn.cpu l.cpu l.taken; within : l.taken ≤ l.limit }

abbrev pub decreases-loop-taken : goal.decreases-loop-taken
decreases-loop-taken l = l.limit - l.taken
