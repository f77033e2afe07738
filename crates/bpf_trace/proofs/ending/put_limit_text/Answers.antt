use Rattle.std.proofs.Common.{append_assoc}
use Rattle.bpf_trace.specs.Traces.{limit_text}
use Rattle.bpf_trace.proofs.ending.put_limit_text.Goals as goal

pub returns : goal.returns
unfolding limit_text
returns g c = λ first front known.
    let begun = c.put-begun.ensures first front known in
    let counted = c.put_decimal-counted.ensures first _ begun in
    let parted = c.put-parted.ensures first _ counted in
    simp append_assoc (simp append_assoc at (rw c.from.ensures at (c.put_decimal.ensures first _ parted)))
