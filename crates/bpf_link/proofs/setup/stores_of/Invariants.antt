use Rattle.std.proofs.Common.{◌≡◌, [], Ok}
use Rattle.bpf_link.specs.Setup.{with_section_image}
use Rattle.bpf_link.specs.Plans.{steps}
use Rattle.bpf_link.proofs.setup.stores_of.Given as goal

abbrev pub invariant-loop-k : goal.invariant-loop-k
invariant-loop-k l = steps (with_section_image l.placed) [] l.k ≡ Ok l.setup.items
