use Rattle.std.proofs.Common.{append_assoc}
use Rattle.bpf_lines.specs.NamedMaps.{value_text}
use Rattle.bpf_lines.proofs.place_names.put_value.Goals as goal

pub returns : goal.returns
unfolding value_text
returns g c = λ first front known.
    let indexed = c.put_index-indexed.ensures first front known in
    simp append_assoc at (c.put_typed.ensures first _ indexed)
