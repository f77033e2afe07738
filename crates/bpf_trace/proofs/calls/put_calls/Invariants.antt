use Rattle.std.proofs.Common.{◌≡◌}
use Rattle.bpf_steps.specs.Runs.{Steps}
use Rattle.bpf_trace.specs.Turns.{IsWaiting}
use Rattle.bpf_trace.proofs.Calling.{TellsCalls}
use Rattle.bpf_trace.proofs.calls.put_calls.Given as goal

abbrev pub invariant-loop-k : goal.invariant-loop-k
invariant-loop-k g l = record {
  told : TellsCalls g.W.Write.contents l.fn.writer l.fn.so_far l.called l.limit l.fn.cpu l.k l.cpu l.pending l.writer l.told;
  steps : Steps l.fn.cpu l.cpu l.k;
  waits : IsWaiting l.pending l.cpu;
}
