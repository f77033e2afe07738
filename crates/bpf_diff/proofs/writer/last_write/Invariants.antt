use Rattle.bpf_diff.proofs.Leaving.{Sought}
use Rattle.bpf_diff.proofs.writer.last_write.Given as goal

abbrev pub invariant-loop-k : goal.invariant-loop-k
invariant-loop-k l = Sought l.place l.limit l.fn.cpu l.cpu l.k l.last
