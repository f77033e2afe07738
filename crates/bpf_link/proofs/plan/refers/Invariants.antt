use Rattle.std.proofs.Common.{◌≡◌}
use Rattle.bpf_link.specs.Plans.{refers_below}
use Rattle.bpf_link.proofs.plan.refers.Given as goal

abbrev pub invariant-loop-i : goal.invariant-loop-i
invariant-loop-i l = l.refers ≡ refers_below l.symbols l.relocations l.kind l.section l.i
