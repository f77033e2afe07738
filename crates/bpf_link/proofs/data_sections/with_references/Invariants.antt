use Rattle.std.proofs.Common.{◌≡◌, Ok}
use Rattle.bpf_link.specs.Data.{with_reference}
use Rattle.bpf_link.specs.Plans.{steps}
use Rattle.bpf_link.proofs.data_sections.with_references.Given as goal

abbrev pub invariant-loop-i : goal.invariant-loop-i
invariant-loop-i l = steps (with_reference l.plan l.kind l.relocations) l.fn.found.items l.i ≡ Ok l.all.items
