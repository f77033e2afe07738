use Rattle.std.proofs.Common.{◌≡◌}
use Rattle.bpf_lines.specs.Enumerators.{in_types}
use Rattle.bpf_lines.proofs.enumerators.find_value.Given as goal

abbrev pub invariant-loop-i : goal.invariant-loop-i
invariant-loop-i l = l.values ≡ in_types l.types l.name l.i
