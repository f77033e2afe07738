use Rattle.bpf_packet.proofs.Leading.{entry_reached}
use Rattle.bpf_packet.proofs.solver.begun.Goals as goal

pub returns-in-Ok-raised-clause-least : goal.returns-in-Ok-raised-clause-least
returns-in-Ok-raised-clause-least c =
    λ other right. c.in-Ok-raised.ensures.least other (c.in-Ok.ensures.nothing other) (entry_reached c.args.words.now c.first.result other c.first.ensures.value right)
