use Rattle.std.proofs.Common.{◌+◌}
use Rattle.bpf_join.specs.Chains.{ComesTo, others}
use Rattle.bpf_join.proofs.chain.join_further.Given as goal

abbrev pub invariant-loop-k : goal.invariant-loop-k
invariant-loop-k l = ComesTo l.first (others l.second l.further) l.section l.as_compiled (l.k + 1) l.all.items
