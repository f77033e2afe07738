use Rattle.std.proofs.Common.{◌≡◌, ◌++◌}
use Rattle.bpf_packet.specs.Rewriting.{rewritten_below}
use Rattle.bpf_packet.proofs.rewriting.with_rewritten.Given as goal

abbrev pub invariant-loop-p : goal.invariant-loop-p
invariant-loop-p l = l.new.items ≡ l.fn.begun.items ++ rewritten_below l.packet l.words l.table l.p
