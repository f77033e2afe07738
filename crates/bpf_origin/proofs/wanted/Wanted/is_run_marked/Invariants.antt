use Rattle.bpf_origin.proofs.Marking.{AreUnmarked}
use Rattle.bpf_origin.proofs.wanted.Wanted.is_run_marked.Given as goal

abbrev pub invariant-loop-k : goal.invariant-loop-k
invariant-loop-k l = AreUnmarked l.self-inside.marks l.address l.k
