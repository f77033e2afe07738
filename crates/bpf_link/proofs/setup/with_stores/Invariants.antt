use Rattle.std.proofs.Common.{◌≡◌}
use Rattle.bpf_link.specs.Setup.{with_stores}
use Rattle.bpf_link.proofs.setup.with_stores.Given as goal

abbrev pub invariant-loop-i : goal.invariant-loop-i
invariant-loop-i l = l.all.items ≡ with_stores l.map l.image l.fn.setup.items l.i
