use Rattle.std.proofs.Common.{◌≡◌, ◌*◌, length}
use Rattle.bpf_packet.specs.Least.{IsLeast}
use Rattle.bpf_packet.specs.Slots.{slots_in}
use Rattle.bpf_packet.proofs.solver.solved.Given as goal

abbrev pub invariant-loop : goal.invariant-loop
invariant-loop l = record { size : length l.draft.table.items ≡ 75 * slots_in l.words; least : IsLeast l.words l.draft.table.items }
