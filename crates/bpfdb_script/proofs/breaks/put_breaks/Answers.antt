-- A line each turn: those of the breakpoints, and then those of the watches.
use Rattle.std.proofs.Common.{◌++◌, ◌∙◌, ap, append_assoc, arith, flat_map}
use Rattle.counted_io.proofs.Appending.{WritesAfter-text}
use Rattle.bpfdb_script.specs.Texts.{break_text, watch_text, text_of_breaks}
use Rattle.bpfdb_script.proofs.Telling.{Telling-start, Telling-step, Telling-end, pieces-next, pieces-end}
use Rattle.bpfdb_script.proofs.breaks.put_breaks.Goals as goal

pub loop-slot-init : goal.loop-slot-init
loop-slot-init g c = Telling-start _ _ _ _

pub loop-slot-preserved : goal.loop-slot-preserved
loop-slot-preserved g c =
    let watches = flat_map watch_text c.args.watches.now in
    Telling-step _ _ _ _ _ _ _ _ _ _ _ c.loop-slot.invariant (rw c.from-slot.ensures at c.put_all-told.ensures)
    (ap (λ s. s ++ watches) (pieces-next break_text c.args.breaks.now c.loop-slot.slot-index 0 (omega arith)) ∙ append_assoc (break_text _) _ watches)

pub loop-address-init : goal.loop-address-init
loop-address-init g c = rw (pieces-end break_text c.args.breaks.now c.loop-slot.slot-index (omega arith)) at c.loop-slot.invariant

pub loop-address-preserved : goal.loop-address-preserved
loop-address-preserved g c =
    Telling-step _ _ _ _ _ _ _ _ _ _ _ c.loop-address.invariant c.put_all-told-in-loop-address.ensures
    (pieces-next watch_text c.args.watches.now c.loop-address.address-index 0 (omega arith))

pub returns : goal.returns
unfolding text_of_breaks
returns g c =
    WritesAfter-text g.W.Write.contents _ _ _ _ _ _
    (Telling-end _ _ _ _ _ _ _ c.loop-address.invariant (pieces-end watch_text c.args.watches.now c.loop-address.address-index (omega arith)))
    (rw c.if-are_none.false at c.are_none.ensures)
