use Rattle.std.proofs.Common.{◌≡◌, take}
use Rattle.bpf_steps.specs.Regions.{maps_len}
use Rattle.bpf_suite.specs.Images.{map_bytes}
use Rattle.bpf_suite.proofs.ending.map_bytes.Given as goal

abbrev pub invariant-loop-map : goal.invariant-loop-map
invariant-loop-map l = l.bytes.items ≡ take (maps_len (take l.map l.cpu.program.maps)) (map_bytes l.cpu)
