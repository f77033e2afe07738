use Rattle.std.proofs.Common.{◌≡◌, [], Ok}
use Rattle.bpf_link.specs.Data.{with_taken, AllBelow}
use Rattle.bpf_link.specs.Plans.{steps}
use Rattle.bpf_link.proofs.data_sections.in_order.Given as goal

abbrev pub invariant-loop-section : goal.invariant-loop-section
invariant-loop-section l = record { made : steps (with_taken l.found) [] l.section ≡ Ok l.taken.items; below : AllBelow l.count l.taken.items }
