use Rattle.bpf_trace.proofs.Marking.{SetFrom}
use Rattle.bpf_trace.proofs.marks.set_span.Given as goal

abbrev pub invariant-loop-i : goal.invariant-loop-i
invariant-loop-i l = SetFrom l.fn.span.from l.i l.fn.value l.fn.marks l.marks
