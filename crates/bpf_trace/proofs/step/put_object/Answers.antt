use Rattle.std.proofs.Common.{codes}
use Rattle.counted_io.proofs.Appending.{WritesAfter-WritesAfter}
use Rattle.bpf_trace.proofs.Heads.{Held-more, object-end}
use Rattle.bpf_trace.proofs.step.put_object.Goals as goal

pub returns : goal.returns
returns g c =
    let held = Held-more g.W.Write.contents _ _ _ _ _ _ _ _ _ _ c.put_object_head-begun.ensures.text c.put_long-placed.ensures.text in
    let all = rw (c.add-2.ensures, c.add_parts.ensures.text, c.add.ensures) at c.as_slice.ensures in
    WritesAfter-WritesAfter g.W.Write.contents _ _ _ _ _ _ _ _ _ held.written c.put.ensures
    (object-end held.told _ _ (codes ",\"parts\":[") _ (codes "]}\n") _ held.parts all)
