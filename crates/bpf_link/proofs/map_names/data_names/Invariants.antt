use Rattle.std.proofs.Common.{◌≡◌, take}
use Rattle.std.specs.Prelude.{map}
use Rattle.bpf_link.specs.MapNames.{data_name}
use Rattle.bpf_link.proofs.map_names.data_names.Given as goal

abbrev pub invariant-loop-section : goal.invariant-loop-section
invariant-loop-section l = l.names.items ≡ map (data_name l.plan) (take l.section-index l.taken)
