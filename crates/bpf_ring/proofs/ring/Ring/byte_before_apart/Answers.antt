use Rattle.std.proofs.Common.{◌∙◌}
use Rattle.bpf_ring.proofs.ring.Ring.byte_before_apart.Goals as goal

pub returns : goal.returns
returns c = λ e mark fits h. c.told_in.ensures e mark fits (c.copy_part.ensures ∙ h)
