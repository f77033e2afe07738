use Rattle.std.proofs.Common.{◌≡◌, ◌-◌}
use Rattle.bpf_agent.specs.Expressions.{most_instructions, value, value_from}
use Rattle.bpf_agent.proofs.expression.value.Given as goal

abbrev pub invariant-loop-k : goal.invariant-loop-k
invariant-loop-k l = value l.code l.cpu ≡ value_from l.code l.cpu (most_instructions - l._k) l.at l.stack
