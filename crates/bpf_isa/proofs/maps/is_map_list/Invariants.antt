use Rattle.std.proofs.Common.{length}
use Rattle.bpf_isa.specs.Maps.{items_of}
use Rattle.bpf_isa.proofs.MapLists.{AreItems}
use Rattle.bpf_isa.proofs.maps.is_map_list.Given as goal

abbrev pub invariant-loop-item : goal.invariant-loop-item
invariant-loop-item l = AreItems (items_of l.text) (length l.yielded)
