use Rattle.std.proofs.Common.{◌≡◌}
use Rattle.bpf_packet.specs.Holding.{all_below}
use Rattle.bpf_packet.specs.Uses.{is_free_argument}
use Rattle.bpf_packet.proofs.uses.are_free.Given as goal

abbrev pub invariant-loop-k : goal.invariant-loop-k
invariant-loop-k l = record { free : l.free ≡ all_below (is_free_argument l.state) l.k }
