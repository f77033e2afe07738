use Rattle.std.proofs.Common.{◌≡◌, ◌++◌, take}
use Rattle.bpf_link.specs.Links.{plain_maps}
use Rattle.bpf_link.proofs.linker.least_maps.Given as goal

abbrev pub invariant-loop-shape : goal.invariant-loop-shape
invariant-loop-shape l = l.maps ≡ plain_maps l.count ++ take l.shape-index l.shapes
