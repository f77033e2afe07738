use Rattle.std.proofs.Common.{◌≡◌, take}
use Rattle.bpf_isa.specs.Maps.{AreMaps}
use Rattle.bpf_load.proofs.program.table_of.Given as goal

abbrev pub invariant-loop-shape : goal.invariant-loop-shape
invariant-loop-shape l = (l.maps ≡ take l.shape-index l.shapes) × AreMaps l.maps
