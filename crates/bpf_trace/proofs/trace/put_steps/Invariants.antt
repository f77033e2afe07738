use Rattle.std.proofs.Common.{◌≡◌}
use Rattle.bpf_steps.specs.Runs.{Steps}
use Rattle.bpf_trace.proofs.Lines.{TellsLines}
use Rattle.bpf_trace.proofs.trace.put_steps.Given as goal

abbrev pub invariant-loop-k : goal.invariant-loop-k
invariant-loop-k g l = record {
  told : TellsLines g.W.Write.contents l.fn.writer l.fn.so_far l.shown l.passed l.most l.fn.cpu l.k l.cpu l.before l.writer l.told;
  steps : Steps l.fn.cpu l.cpu l.k;
  program : l.cpu.program ≡ l.fn.cpu.program;
}
