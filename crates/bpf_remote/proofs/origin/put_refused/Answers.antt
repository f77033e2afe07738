use Rattle.std.proofs.Common.{append_assoc}
use Rattle.bpf_remote.proofs.origin.put_refused.Goals as goal

pub returns : goal.returns
returns g c = λ first front known.
    let begun = c.put-begun.ensures first front known in
    let numbered = rw c.from.ensures at (c.put_decimal-numbered.ensures first _ begun) in
    let parted = c.put-parted.ensures first _ numbered in
    let told = rw c.as_bytes.ensures.value at (c.put-told.ensures first _ parted) in
    simp append_assoc (simp append_assoc at (c.put.ensures first _ told))
