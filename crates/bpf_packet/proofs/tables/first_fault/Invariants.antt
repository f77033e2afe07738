use Rattle.std.proofs.Common.{◌≡◌}
use Rattle.bpf_packet.specs.Tables.{first_fault}
use Rattle.bpf_packet.proofs.tables.first_fault.Given as goal

abbrev pub invariant-loop-p : goal.invariant-loop-p
invariant-loop-p l = record { first : l.first ≡ first_fault l.packet l.words l.table l.p }
