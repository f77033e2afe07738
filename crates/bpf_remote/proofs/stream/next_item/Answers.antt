use Rattle.std.proofs.Common.{Ok, ap, ◌∙◌}
use Rattle.bpf_remote.proofs.Cutting.{Item-packet}
use Rattle.bpf_remote.proofs.stream.next_item.Goals as goal

pub returns-in-Ok-Packet : goal.returns-in-Ok-Packet
returns-in-Ok-Packet g c = Item-packet _ _ _ _ _ _ (rw (c.in-Ok-Packet.is ∙ ap Ok c.in-Ok-Packet.field-0-is) at c.find_start.ensures) c.read_packet.ensures
