use Rattle.std.proofs.Common.{◌≡◌}
use Rattle.bpf_lines.specs.NamedValues.{verdict_below}
use Rattle.bpf_lines.proofs.named_value.verdict.Given as goal

abbrev pub invariant-loop-value : goal.invariant-loop-value
invariant-loop-value l = l.found ≡ verdict_below l.name l.value
