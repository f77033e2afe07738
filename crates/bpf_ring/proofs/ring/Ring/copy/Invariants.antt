use Rattle.std.proofs.Common.{◌≡◌, ◌++◌, take, drop}
use Rattle.bpf_ring.proofs.ring.Ring.copy.Given as goal

abbrev pub invariant-loop-i : goal.invariant-loop-i
invariant-loop-i l = l.into ≡ take l.i (drop l.from l.self.bytes) ++ drop l.i l.initial.into
