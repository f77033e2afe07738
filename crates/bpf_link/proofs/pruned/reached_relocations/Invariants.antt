use Rattle.bpf_link.proofs.Pruning.{AreKept}
use Rattle.bpf_link.proofs.pruned.reached_relocations.Given as goal

abbrev pub invariant-loop-i : goal.invariant-loop-i
invariant-loop-i l = AreKept l.reach l.first l.relocations l.i l.bytes.items
