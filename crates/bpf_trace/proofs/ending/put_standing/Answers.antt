use Rattle.std.proofs.Common.{◌∙◌, refl}
use Rattle.counted_io.proofs.Appending.{WritesAfter-WritesAfter}
use Rattle.bpf_trace.proofs.ending.put_standing.Goals as goal

pub returns : goal.returns
returns g c =
    let told = rw (c.from.ensures ∙ c.pc.ensures) at c.text_of_slot.ensures in
    WritesAfter-WritesAfter g.W.Write.contents _ _ _ _ _ _ _ _ _ c.put_place-placed.ensures (rw told at c.put.ensures) refl
