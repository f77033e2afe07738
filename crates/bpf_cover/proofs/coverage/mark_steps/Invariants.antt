use Rattle.bpf_cover.proofs.Marks.{Marks}
use Rattle.bpf_cover.proofs.coverage.mark_steps.Given as goal

abbrev pub invariant-loop : goal.invariant-loop
invariant-loop l = Marks l.limit l.fn.cpu l.cpu l.counter l.fn.marks l.marks
