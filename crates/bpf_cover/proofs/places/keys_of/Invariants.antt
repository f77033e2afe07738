use Rattle.std.proofs.Common.{◌≡◌, take}
use Rattle.std.specs.Prelude.{map}
use Rattle.bpf_cover.specs.Spots.{plain}
use Rattle.bpf_cover.proofs.places.keys_of.Given as goal

abbrev pub invariant-loop-spot : goal.invariant-loop-spot
invariant-loop-spot l = map plain l.keys.items ≡ take l.spot-index l.spots
