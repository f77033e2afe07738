use Rattle.std.proofs.Common.{append_assoc}
use Rattle.bpf_trace.proofs.ending.put_limit.Goals as goal

pub returns : goal.returns
returns g c = λ first front known.
    let told = c.put_limit_text-told.ensures first front known in
    simp append_assoc at (c.put.ensures first _ told)
