use Rattle.std.proofs.Common.{◌≡◌}
use Rattle.bpf_packet.specs.Flow.{entering}
use Rattle.bpf_packet.specs.Holding.{all_below, covers, held_in}
use Rattle.bpf_packet.proofs.tables.holds_entering.Given as goal

abbrev pub invariant-loop-place : goal.invariant-loop-place
invariant-loop-place l = record { holds : l.holds ≡ all_below (λ place. covers (held_in l.next place) (entering l.slot l.state place)) l.place }
