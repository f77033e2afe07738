use Rattle.std.proofs.Common.{Ok, ap, ◌∙◌}
use Rattle.bpf_remote.proofs.Cutting.{Packet-fail, Packet-end, Packet-whole}
use Rattle.bpf_remote.proofs.stream.read_packet.Goals as goal

pub returns-in-Err-read_sum : goal.returns-in-Err-read_sum
returns-in-Err-read_sum g c =
    Packet-fail _ _ _ _ c.read_body.new.body c.read_body.new.body c.in-Err-read_sum.fault (rw (c.in-Ok-true.is ∙ ap Ok c.in-Ok-true.field-0-test) at c.read_body.ensures)
    (rw c.in-Err-read_sum.is at c.read_sum.ensures)

pub returns-in-Ok-None : goal.returns-in-Ok-None
returns-in-Ok-None g c =
    Packet-end _ _ _ _ c.read_body.new.body c.read_body.new.body (rw (c.in-Ok-true.is ∙ ap Ok c.in-Ok-true.field-0-test) at c.read_body.ensures)
    (rw (c.in-Ok-None.is ∙ ap Ok c.in-Ok-None.field-0-is) at c.read_sum.ensures)

pub returns-in-Ok-Some : goal.returns-in-Ok-Some
returns-in-Ok-Some g c =
    Packet-whole _ _ _ _ _ _ _ _ (rw (c.in-Ok-true.is ∙ ap Ok c.in-Ok-true.field-0-test) at c.read_body.ensures)
    (rw (c.in-Ok-Some.is ∙ ap Ok c.in-Ok-Some.field-0-is) at c.read_sum.ensures) c.sort.ensures.sorted c.sort.ensures.short
