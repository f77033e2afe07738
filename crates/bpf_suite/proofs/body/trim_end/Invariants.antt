use Rattle.std.proofs.Common.{◌≡◌, ◌≤◌, take, length}
use Rattle.bpf_suite.specs.Bodies.{trim_end}
use Rattle.bpf_suite.proofs.body.trim_end.Given as goal

abbrev pub invariant-loop-end : goal.invariant-loop-end
invariant-loop-end l = (l.end ≤ length l.text) × (trim_end (take l.end l.text) ≡ trim_end l.text)

abbrev pub decreases-loop-end : goal.decreases-loop-end
decreases-loop-end l = l.end
