use Rattle.std.proofs.Common.{append_assoc}
use Rattle.bpf_origin.specs.Texts.{read_text}
use Rattle.bpf_origin.proofs.line.put_read.Goals as goal

pub returns : goal.returns
unfolding read_text
returns g c = λ first front known.
    let begun = c.put-begun.ensures first front known in
    simp append_assoc at (c.put_part_name.ensures first _ begun)
