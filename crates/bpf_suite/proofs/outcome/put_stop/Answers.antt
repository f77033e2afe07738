use Rattle.std.proofs.Common.{append_assoc}
use Rattle.bpf_suite.proofs.outcome.put_stop.Goals as goal

pub returns : goal.returns
returns g c = λ first front known.
    let begun = rw (c.limit_word.ensures, c.status.ensures) at (c.put-begun.ensures first front known) in
    simp append_assoc at (c.put_place.ensures first _ begun)
