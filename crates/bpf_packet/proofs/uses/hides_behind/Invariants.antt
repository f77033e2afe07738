use Rattle.std.proofs.Common.{◌≡◌}
use Rattle.bpf_packet.specs.Holding.{all_below}
use Rattle.bpf_packet.specs.Uses.{hides}
use Rattle.bpf_packet.proofs.uses.hides_behind.Given as goal

abbrev pub invariant-loop-k : goal.invariant-loop-k
invariant-loop-k l = record { hides : l.hides ≡ all_below (hides l.state l.begin) l.k }
