use Rattle.std.proofs.Common.{ℕ, List, ◌++◌, take}
use Rattle.bpf_remote.specs.Numbers.{hex_text}
use Rattle.bpf_remote.specs.Packets.{Holds}
use Rattle.bpf_remote.proofs.body.Body.append_hex.Given as goal

abbrev pub invariant-loop-byte : goal.invariant-loop-byte
invariant-loop-byte l = (body : List ℕ) → Holds l.initial.self body → Holds l.self (body ++ hex_text (take l.byte-index l.bytes))
