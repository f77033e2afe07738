use Rattle.std.proofs.Common.{◌≡◌, take}
use Rattle.std.specs.Prelude.{map}
use Rattle.bpf_link.specs.MapNames.{map_name}
use Rattle.bpf_link.proofs.map_names.own_names.Given as goal

abbrev pub invariant-loop-place : goal.invariant-loop-place
invariant-loop-place l = l.names.items ≡ map (map_name l.plan) (take l.place-index l.places)
