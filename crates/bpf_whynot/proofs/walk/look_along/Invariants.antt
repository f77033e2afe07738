use Rattle.std.proofs.Common.{◌≤◌, length}
use Rattle.bpf_whynot.specs.Flows.{jump}
use Rattle.bpf_whynot.proofs.Walking.{Along}
use Rattle.bpf_whynot.proofs.walk.look_along.Given as goal

abbrev pub invariant-loop-at : goal.invariant-loop-at
invariant-loop-at l = (l.at ≤ length l.program.insns) × Along l.but (jump l.program) l.slot l.at l.fn.walk l.walk

abbrev pub decreases-loop-at : goal.decreases-loop-at
decreases-loop-at l = l.at
