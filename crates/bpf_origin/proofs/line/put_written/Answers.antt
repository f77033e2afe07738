use Rattle.std.proofs.Common.{append_assoc}
use Rattle.bpf_origin.specs.Texts.{written_text}
use Rattle.bpf_origin.proofs.line.put_written.Goals as goal

pub returns : goal.returns
unfolding written_text
returns g c = λ first front known.
    let told = c.put_part-told.ensures first front known in
    simp append_assoc at (c.put.ensures first _ told)
