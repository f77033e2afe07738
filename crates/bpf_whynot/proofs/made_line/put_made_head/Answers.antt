use Rattle.std.proofs.Common.{append_assoc}
use Rattle.bpf_whynot.specs.Answers.{made_head}
use Rattle.bpf_whynot.proofs.made_line.put_made_head.Goals as goal

pub returns : goal.returns
unfolding made_head
returns g c = λ first front known.
    let begun = c.put-begun.ensures first front known in
    let counted = c.put_decimal-counted.ensures first _ begun in
    let parted = c.put-parted.ensures first _ counted in
    simp append_assoc (simp append_assoc at (c.put_made_values.ensures first _ parted))
