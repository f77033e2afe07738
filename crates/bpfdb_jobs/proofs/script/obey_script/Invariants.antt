use Rattle.std.proofs.Common.{length}
use Rattle.bpfdb_jobs.proofs.Obeying.{Going}
use Rattle.bpfdb_jobs.proofs.script.obey_script.Given as goal

abbrev pub invariant-loop-rest : goal.invariant-loop-rest
invariant-loop-rest l = Going l.fn.session l.session l.script l.rest l.moves

abbrev pub decreases-loop-rest : goal.decreases-loop-rest
decreases-loop-rest l = length l.rest
