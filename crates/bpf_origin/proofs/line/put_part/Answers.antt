use Rattle.std.proofs.Common.{append_assoc}
use Rattle.bpf_origin.specs.Texts.{part_text}
use Rattle.bpf_origin.proofs.line.put_part.Goals as goal

pub returns : goal.returns
unfolding part_text
returns g c = λ first front known.
    let named = c.put_part_name-named.ensures first front known in
    simp append_assoc at (c.put_part_value.ensures first _ named)
