use Rattle.std.proofs.Common.{◌≡◌}
use Rattle.bpf_link.specs.Undefined.{undefined_below}
use Rattle.bpf_link.proofs.undefined.with_all.Given as goal

abbrev pub invariant-loop-i : goal.invariant-loop-i
invariant-loop-i l = l.all.items ≡ undefined_below l.plan l.relocations l.fn.places.items l.i
