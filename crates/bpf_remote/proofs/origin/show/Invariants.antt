use Rattle.std.proofs.Common.{length}
use Rattle.bpf_remote.proofs.OriginTexts.{Showing}
use Rattle.bpf_remote.proofs.origin.show.Given as goal

abbrev pub invariant-loop-rest : goal.invariant-loop-rest
invariant-loop-rest g l = Showing g.W.Write.contents l.fn.writer l.fn.so_far l.writer l.told l.text l.rest

abbrev pub decreases-loop-rest : goal.decreases-loop-rest
decreases-loop-rest g l = length l.rest
