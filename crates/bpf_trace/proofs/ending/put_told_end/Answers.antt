use Rattle.std.proofs.Common.{◌∙◌}
use Rattle.bpf_trace.proofs.ending.put_told_end.Goals as goal

pub returns : goal.returns
returns g c =
    let text = rw (c.from.ensures ∙ c.pc.ensures) at c.text_of_slot-told.ensures in
    rw text at c.put_end_row.ensures
