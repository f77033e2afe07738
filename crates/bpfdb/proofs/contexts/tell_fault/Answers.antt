use Rattle.bpfdb.proofs.contexts.tell_fault.Goals as goal

pub returns-in-Packet : goal.returns-in-Packet
returns-in-Packet g c = rw c.in-Packet.is c.tell_packet.ensures

pub returns-in-Memory : goal.returns-in-Memory
returns-in-Memory g c = rw c.in-Memory.is c.tell.ensures
