use Rattle.std.proofs.Common.{append_assoc}
use Rattle.bpf_lines.proofs.debug_info.put_no_place.Goals as goal

pub returns : goal.returns
returns g c = λ first front known.
    let begun = c.put-begun.ensures first front known in
    let named = c.put_shown-named.ensures first _ begun in
    simp append_assoc (simp append_assoc at (c.put.ensures first _ named))
