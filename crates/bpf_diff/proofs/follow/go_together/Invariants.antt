use Rattle.bpf_diff.specs.Alike.{same_slot}
use Rattle.bpf_diff.specs.Following.{Along}
use Rattle.bpf_diff.proofs.follow.go_together.Given as goal

abbrev pub invariant-loop-k : goal.invariant-loop-k
invariant-loop-k l = Along same_slot l.most l.fn.first l.fn.second l.first l.second l.k
