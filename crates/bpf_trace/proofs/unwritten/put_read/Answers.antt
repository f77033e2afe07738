use Rattle.std.proofs.Common.{append_assoc}
use Rattle.bpf_trace.specs.UnwrittenTexts.{unwritten_text}
use Rattle.bpf_trace.proofs.unwritten.put_read.Goals as goal

pub returns : goal.returns
unfolding unwritten_text
returns g c = λ first front known.
    let begun = c.put-begun.ensures first front known in
    let told = c.put_hexadecimal-told.ensures first _ begun in
    let parted = c.put-parted.ensures first _ told in
    let placed = rw c.from.ensures at (c.put_decimal-placed.ensures first _ parted) in
    simp append_assoc (simp append_assoc at (c.put.ensures first _ placed))
