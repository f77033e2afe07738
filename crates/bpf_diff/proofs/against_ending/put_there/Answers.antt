use Rattle.std.proofs.Common.{append_assoc}
use Rattle.bpf_diff.specs.Against.{there}
use Rattle.bpf_diff.proofs.against_ending.put_there.Goals as goal

pub returns : goal.returns
unfolding there
returns g c = λ first front known.
    let marked = c.put-marked.ensures first front known in
    let told = c.put_shown-told.ensures first _ marked in
    simp append_assoc at (c.put.ensures first _ told)
