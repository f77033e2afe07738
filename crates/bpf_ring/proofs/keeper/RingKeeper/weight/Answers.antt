use Rattle.std.proofs.Common.{length, ap, ◌∙◌}
use Rattle.bpf_ring.proofs.keeper.RingKeeper.weight.Goals as goal
use Rattle.bpf_ring.proofs.Held.{length-ring}

pub returns : goal.returns
returns c = λ ks held. c.len.ensures.value ∙ ap length held.bytes ∙ length-ring ks held.fit
