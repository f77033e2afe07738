use Rattle.std.proofs.Common.{◌≡◌, [], length}
use Rattle.counted_io.specs.Lines.{lines}
use Rattle.bpf_lines.specs.PlaceSlots.{with_rows}
use Rattle.bpf_lines.proofs.place_slots.slots_told.Given as goal

abbrev pub invariant-loop-rest : goal.invariant-loop-rest
invariant-loop-rest l = with_rows l.of_object l.what l.slots.items (lines l.rest) ≡ with_rows l.of_object l.what [] (lines l.table)

abbrev pub decreases-loop-rest : goal.decreases-loop-rest
decreases-loop-rest l = length l.rest
