use Rattle.bpf_diff.proofs.Following.{Both}
use Rattle.bpf_diff.proofs.follow.go_alike.Given as goal

abbrev pub invariant-loop-k : goal.invariant-loop-k
invariant-loop-k l = Both l.limit l.fn.first l.fn.second l.first l.second l.k
