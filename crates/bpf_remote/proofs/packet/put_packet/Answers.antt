use Rattle.std.proofs.Common.{append_assoc}
use Rattle.bpf_remote.proofs.packet.put_packet.Goals as goal

pub returns : goal.returns
returns g c = λ first front known.
    simp (append_assoc, c.two_digits.ensures, c.sum_of.ensures) at (c.put.ensures first _ (c.put-marked.ensures first _ (c.put-told.ensures first _ (c.put-begun.ensures first front known))))
