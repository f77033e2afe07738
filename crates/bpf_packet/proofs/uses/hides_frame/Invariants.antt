use Rattle.std.proofs.Common.{◌≡◌}
use Rattle.bpf_packet.specs.Holding.{all_below}
use Rattle.bpf_packet.specs.Uses.{shows_none_by}
use Rattle.bpf_packet.proofs.uses.hides_frame.Given as goal

abbrev pub invariant-loop-k : goal.invariant-loop-k
invariant-loop-k l = record { hides : l.hides ≡ all_below (shows_none_by l.state) l.k }
