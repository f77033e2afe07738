use Rattle.std.proofs.Common.{append_assoc}
use Rattle.bpf_whynot.specs.Answers.{value_of}
use Rattle.bpf_whynot.proofs.made_line.put_part_value.Goals as goal

pub returns : goal.returns
unfolding value_of
returns g c = λ first front known.
    let named = c.put_part_name-named.ensures first front known in
    let valued = c.put_value-valued.ensures first _ named in
    simp append_assoc (simp append_assoc at (c.put.ensures first _ valued))
