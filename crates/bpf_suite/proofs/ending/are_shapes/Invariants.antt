use Rattle.std.proofs.Common.{◌≡◌, take}
use Rattle.bpf_suite.proofs.ending.are_shapes.Given as goal

abbrev pub invariant-loop-map : goal.invariant-loop-map
invariant-loop-map l = take l.map l.one ≡ take l.map l.other
