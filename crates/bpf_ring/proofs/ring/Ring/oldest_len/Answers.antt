use Rattle.std.proofs.Common.{[], refl}
use Rattle.bpf_ring.proofs.ring.Ring.oldest_len.Goals as goal

pub returns : goal.returns
returns c = λ n rest small h. c.len_at.ensures n [] rest small h refl
