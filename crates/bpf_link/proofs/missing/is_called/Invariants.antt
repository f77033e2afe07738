use Rattle.std.proofs.Common.{◌≡◌}
use Rattle.bpf_link.specs.Missing.{called_below}
use Rattle.bpf_link.proofs.missing.is_called.Given as goal

abbrev pub invariant-loop-slot : goal.invariant-loop-slot
invariant-loop-slot l = l.found ≡ called_below l.words l.helper l.slot
