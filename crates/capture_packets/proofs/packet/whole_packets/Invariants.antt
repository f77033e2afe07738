use Rattle.std.proofs.Common.{◌≡◌, ◌<◌, true, suc, ℕ}
use Rattle.std.specs.Prelude.{is_some}
use Rattle.input_texts.specs.Captures.{packet_in}
use Rattle.capture_packets.proofs.packet.whole_packets.Given as goal

-- those before are whole
abbrev pub invariant-loop-k : goal.invariant-loop-k
invariant-loop-k l = (n : ℕ) → n < l.k → is_some (packet_in l.file (suc n)) ≡ true
