use Rattle.std.proofs.Common.{◌∙◌}
use Rattle.bpf_trace.proofs.strict_trace.put_read.Goals as goal

pub returns-in-Json : goal.returns-in-Json
returns-in-Json g c =
    let members = rw (c.from-slot.ensures, c.as_slice.ensures.value) at c.text_of_slot-members.ensures in
    rw c.in-Json.is (rw (members ∙ c.requires.words c.in-Json.is, c.requires.called c.in-Json.is) at c.put_unwritten_object.ensures)
