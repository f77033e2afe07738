use Rattle.std.proofs.Common.{◌≡◌, Ok, length}
use Rattle.bpf_isa.specs.Maps.{items_of}
use Rattle.bpf_opening.specs.Lists.{opening_below}
use Rattle.bpf_opening.proofs.registers.opening_in.Given as goal

abbrev pub invariant-loop-item : goal.invariant-loop-item
invariant-loop-item l = opening_below (items_of l.text) (length l.yielded) ≡ Ok l.opening
