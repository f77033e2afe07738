use Rattle.std.proofs.Common.{append_assoc}
use Rattle.bpf_origin.specs.Texts.{tail}
use Rattle.bpf_origin.proofs.line.put_tail.Goals as goal

pub returns : goal.returns
unfolding tail
returns g c = λ m is first front known.
    let named = c.put_move-named.ensures m is first front known in
    let marked = c.put_unwritten-marked.ensures m is first _ named in
    let told = c.put_reads-told.ensures first _ marked in
    let placed = c.put_slot-placed.ensures m is first _ told in
    simp append_assoc (simp append_assoc at (c.put.ensures first _ placed))
