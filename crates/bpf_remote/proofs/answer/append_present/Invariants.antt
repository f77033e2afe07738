use Rattle.std.proofs.Common.{◌≡◌, ℕ, ◌+◌, ◌-◌, List, ◌++◌}
use Rattle.bpf_remote.specs.Answers.{present}
use Rattle.bpf_remote.specs.Numbers.{hex_text}
use Rattle.bpf_remote.specs.Packets.{Holds}
use Rattle.bpf_remote.proofs.answer.append_present.Given as goal

abbrev pub invariant-loop-k : goal.invariant-loop-k
invariant-loop-k l = (text : List ℕ) → Holds l.initial.body text
    → (front : List ℕ) × Holds l.body (text ++ front) × (hex_text (present l.cpu l.address l.count) ≡ front ++ hex_text (present l.cpu (l.address + l.k) (l.count - l.k)))
