use Rattle.std.proofs.Common.{List}
use Rattle.bpf_packet.specs.Least.{AllReach, StateReaches}
use Rattle.bpf_packet.specs.declared.held.Held.{Held}
use Rattle.bpf_packet.proofs.solver.raise.Given as goal

abbrev pub invariant-loop-place : goal.invariant-loop-place
invariant-loop-place l = (other : List Held) → AllReach other l.fn.table → StateReaches other l.p l.given → AllReach other l.table
