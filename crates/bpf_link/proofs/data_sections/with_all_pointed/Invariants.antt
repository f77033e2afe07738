use Rattle.std.proofs.Common.{◌≡◌, Ok}
use Rattle.bpf_link.specs.Data.{with_pointed}
use Rattle.bpf_link.specs.Plans.{steps}
use Rattle.bpf_link.proofs.data_sections.with_all_pointed.Given as goal

abbrev pub invariant-loop-k : goal.invariant-loop-k
invariant-loop-k l = steps (with_pointed l.plan) l.fn.found.items l.k ≡ Ok l.all.items
