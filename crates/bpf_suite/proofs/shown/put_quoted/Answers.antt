use Rattle.std.proofs.Common.{append_assoc}
use Rattle.bpf_suite.specs.Shown.{quoted}
use Rattle.bpf_suite.proofs.shown.put_quoted.Goals as goal

pub returns : goal.returns
unfolding quoted
returns g c = λ first front known.
    let begun = c.put-begun.ensures first front known in
    let told = c.put_quoted_chars-told.ensures first _ begun in
    simp append_assoc (simp append_assoc at (c.put.ensures first _ told))
