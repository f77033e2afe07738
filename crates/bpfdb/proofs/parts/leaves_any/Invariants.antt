use Rattle.std.proofs.Common.{◌≡◌}
use Rattle.bpfdb.specs.Parts.{leaves_below}
use Rattle.bpfdb.proofs.parts.leaves_any.Given as goal

abbrev pub invariant-loop-i : goal.invariant-loop-i
invariant-loop-i l = l.found ≡ leaves_below l.plan l.i
