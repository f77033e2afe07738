use Rattle.std.proofs.Common.{append_assoc}
use Rattle.bpf_origin.specs.Texts.{left_line}
use Rattle.bpf_origin.proofs.left.put_left_line.Goals as goal

pub returns : goal.returns
unfolding left_line
returns g c = λ first front known.
    let begun = c.put-begun.ensures first front known in
    let valued = c.put_part-valued.ensures first _ begun in
    let placed = c.put_context-placed.ensures first _ valued in
    simp append_assoc (simp append_assoc at (c.put_since.ensures first _ placed))
