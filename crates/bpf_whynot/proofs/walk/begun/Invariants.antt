use Rattle.bpf_whynot.specs.Walks.{Begins}
use Rattle.bpf_whynot.proofs.walk.begun.Given as goal

abbrev pub invariant-loop-slot : goal.invariant-loop-slot
invariant-loop-slot l = Begins l.seeds l.slot l.walk
