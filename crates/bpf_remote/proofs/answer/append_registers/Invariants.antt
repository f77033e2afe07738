use Rattle.std.proofs.Common.{ℕ, List, ◌++◌}
use Rattle.bpf_remote.specs.Answers.{registers_below}
use Rattle.bpf_remote.specs.Packets.{Holds}
use Rattle.bpf_remote.proofs.answer.append_registers.Given as goal

abbrev pub invariant-loop-n : goal.invariant-loop-n
invariant-loop-n l = (text : List ℕ) → Holds l.initial.body text → Holds l.body (text ++ registers_below l.cpu l.n)
