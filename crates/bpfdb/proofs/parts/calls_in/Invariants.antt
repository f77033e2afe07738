use Rattle.std.proofs.Common.{◌≡◌}
use Rattle.bpfdb.specs.Parts.{calls_below}
use Rattle.bpfdb.proofs.parts.calls_in.Given as goal

abbrev pub invariant-loop-slot : goal.invariant-loop-slot
invariant-loop-slot l = l.calls.items ≡ calls_below l.code l.slot
