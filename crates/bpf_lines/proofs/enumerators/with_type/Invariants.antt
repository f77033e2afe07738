use Rattle.std.proofs.Common.{◌≡◌}
use Rattle.bpf_lines.specs.Enumerators.{in_entries}
use Rattle.bpf_lines.proofs.enumerators.with_type.Given as goal

abbrev pub invariant-loop-i : goal.invariant-loop-i
invariant-loop-i l = l.values ≡ in_entries l.types l.name l.id l.fn.found l.i
