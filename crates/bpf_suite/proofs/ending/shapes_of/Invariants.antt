use Rattle.std.proofs.Common.{◌≡◌, take}
use Rattle.bpf_suite.proofs.ending.shapes_of.Given as goal

abbrev pub invariant-loop-map : goal.invariant-loop-map
invariant-loop-map l = l.shapes.items ≡ take l.map l.cpu.program.maps
