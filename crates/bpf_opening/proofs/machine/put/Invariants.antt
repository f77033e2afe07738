use Rattle.std.proofs.Common.{◌≡◌, take}
use Rattle.bpf_opening.specs.Openings.{overlaid}
use Rattle.bpf_opening.proofs.machine.put.Given as goal

abbrev pub invariant-loop-number : goal.invariant-loop-number
invariant-loop-number l = l.cpu ≡ record l.fn.cpu { registers = overlaid (take l.number l.opening.registers) l.fn.cpu.registers }
