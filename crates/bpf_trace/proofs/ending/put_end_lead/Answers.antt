use Rattle.std.proofs.Common.{◌∙◌, refl, sym}
use Rattle.counted_io.proofs.Appending.{WritesAfter-WritesAfter}
use Rattle.bpf_trace.proofs.ending.put_end_lead.Goals as goal

pub returns-in-Running : goal.returns-in-Running
returns-in-Running g c =
    let after = WritesAfter-WritesAfter g.W.Write.contents in
    let two = after _ _ _ _ _ _ _ _ _ c.put-begun.ensures c.put_decimal-counted.ensures refl in
    let slot = rw (c.from-slot.ensures ∙ c.pc.ensures) at c.put_slot.ensures in
    rw (sym c.status.ensures ∙ c.in-Running.is) (after _ _ _ _ _ _ _ _ _ two slot refl)

pub returns-in-Exited : goal.returns-in-Exited
returns-in-Exited g c =
    rw (sym c.status.ensures ∙ c.in-Exited.is) (rw (c.from-slot.ensures ∙ c.pc.ensures, c.number_in.ensures) at c.put_exit_lead.ensures)

pub returns-in-Faulted : goal.returns-in-Faulted
returns-in-Faulted g c =
    let after = WritesAfter-WritesAfter g.W.Write.contents in
    let two = after _ _ _ _ _ _ _ _ _ c.put-begun-in-Faulted.ensures c.put_fault-told.ensures refl in
    let three = after _ _ _ _ _ _ _ _ _ two c.put-ended.ensures refl in
    let slot = rw (c.from-slot.ensures ∙ c.pc.ensures) at c.put_slot-in-Faulted.ensures in
    rw (sym c.status.ensures ∙ c.in-Faulted.is) (after _ _ _ _ _ _ _ _ _ three slot refl)
