use Rattle.std.proofs.Common.{◌≡◌}
use Rattle.bpf_packet.specs.Holding.{all_below}
use Rattle.bpf_packet.specs.Tables.{is_right_at}
use Rattle.bpf_packet.proofs.tables.are_right.Given as goal

abbrev pub invariant-loop-p : goal.invariant-loop-p
invariant-loop-p l = record { right : l.right ≡ all_below (is_right_at l.words l.table) l.p }
