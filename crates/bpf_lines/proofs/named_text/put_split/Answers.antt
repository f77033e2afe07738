use Rattle.std.proofs.Common.{append_assoc}
use Rattle.bpf_lines.specs.NamedTexts.{named_by}
use Rattle.bpf_lines.proofs.named_text.put_split.Goals as goal

pub returns : goal.returns
unfolding named_by
returns g c = λ first front known.
    let begun = c.put-begun.ensures first front known in
    let told = rw c.told_in.ensures.value at (c.put_told-told.ensures first _ begun) in
    let placed = c.put-placed.ensures first _ told in
    simp append_assoc (simp append_assoc at (c.put.ensures first _ placed))
