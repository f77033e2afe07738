use Rattle.std.proofs.Common.{◌≡◌, take}
use Rattle.std.specs.Prelude.{map}
use Rattle.bpf_cover.specs.Spots.{plain}
use Rattle.bpf_cover.proofs.places.plain.Given as goal

abbrev pub invariant-loop-key : goal.invariant-loop-key
invariant-loop-key l = l.spots.items ≡ map plain (take l.key-index l.keys)
