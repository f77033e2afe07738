use Rattle.std.proofs.Common.{◌≡◌, Ok}
use Rattle.bpf_link.specs.Links.{with_map}
use Rattle.bpf_link.specs.Plans.{steps}
use Rattle.bpf_link.proofs.words.with_maps.Given as goal

abbrev pub invariant-loop-i : goal.invariant-loop-i
invariant-loop-i l = steps (with_map l.plan l.relocations) l.fn.maps.items l.i ≡ Ok l.all.items
