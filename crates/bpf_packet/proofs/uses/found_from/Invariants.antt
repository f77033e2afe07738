use Rattle.std.proofs.Common.{◌≡◌}
use Rattle.bpf_packet.specs.Holding.{all_below}
use Rattle.bpf_packet.specs.Uses.{leads_nowhere}
use Rattle.bpf_packet.proofs.uses.found_from.Given as goal

abbrev pub invariant-loop-k : goal.invariant-loop-k
invariant-loop-k l = record { nowhere : l.nowhere ≡ all_below (leads_nowhere l.state l.at) l.k }
