use Rattle.std.proofs.Common.{◌≡◌, ◌<◌, ℕ, length}
use Rattle.bpf_packet.specs.Flow.{after}
use Rattle.bpf_packet.specs.Holding.{held_in}
use Rattle.bpf_packet.proofs.solver.left.Given as goal

abbrev pub invariant-loop-place : goal.invariant-loop-place
invariant-loop-place l = record { size : length l.given ≡ 75; value : (k : ℕ) → k < l.place → held_in l.given k ≡ after l.slot l.state k }
