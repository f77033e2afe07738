use Rattle.std.proofs.Common.{◌≡◌, Ok}
use Rattle.bpf_link.specs.Images.{with_pointer}
use Rattle.bpf_link.specs.Plans.{steps}
use Rattle.bpf_link.proofs.image.with_pointers.Given as goal

abbrev pub invariant-loop-i : goal.invariant-loop-i
invariant-loop-i l = steps (with_pointer l.placed l.relocations) l.fn.image.items l.i ≡ Ok l.all.items
