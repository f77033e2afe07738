use Rattle.bpf_whynot.proofs.Walks.{ToldSo}
use Rattle.bpf_whynot.proofs.reach.Reach.can_come.Given as goal

abbrev pub invariant-loop-i : goal.invariant-loop-i
invariant-loop-i l = ToldSo l.self l.cpu l.i l.slot
