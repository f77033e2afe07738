use Rattle.bpf_trace.proofs.Runs.{Follows}
use Rattle.bpf_trace.proofs.strict_run.find_unwritten.Given as goal

abbrev pub invariant-loop-k : goal.invariant-loop-k
invariant-loop-k l = Follows l.own l.limit l.fn.cpu l.cpu l.k l.marks
