use Rattle.bpf_link.proofs.Reached.{HasLooked}
use Rattle.bpf_link.proofs.reach.reached.Given as goal

abbrev pub invariant-loop-k : goal.invariant-loop-k
invariant-loop-k l = HasLooked l.words l.entry l.k l.walk
