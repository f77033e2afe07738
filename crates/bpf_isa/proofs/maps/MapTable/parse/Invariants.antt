use Rattle.std.proofs.Common.{◌≡◌, length, take}
use Rattle.std.specs.Prelude.{map}
use Rattle.bpf_isa.specs.Maps.{AreMaps, shape_of, items_of}
use Rattle.bpf_isa.proofs.maps.MapTable.parse.Given as goal

abbrev pub invariant-loop-item : goal.invariant-loop-item
invariant-loop-item l = (l.maps ≡ take (length l.yielded) (map shape_of (items_of l.text))) × AreMaps l.maps
