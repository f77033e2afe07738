use Rattle.bpf_trace.proofs.Counting.{Counts}
use Rattle.bpf_trace.proofs.profile.count_steps.Given as goal

abbrev pub invariant-loop : goal.invariant-loop
invariant-loop l = Counts l.limit l.fn.cpu l.cpu l.counter l.counts
