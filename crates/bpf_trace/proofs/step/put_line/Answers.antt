use Rattle.counted_io.proofs.Appending.{WritesAfter-WritesAfter}
use Rattle.bpf_trace.proofs.Heads.{line-end}
use Rattle.bpf_trace.proofs.step.put_line.Goals as goal

pub returns : goal.returns
returns g c =
    let held = c.put_head-told.ensures.text in
    WritesAfter-WritesAfter g.W.Write.contents _ _ _ _ _ _ _ _ _ held.written c.put_told.ensures
    (line-end held.told _ _ _ _ _ held.parts c.add_parts.ensures.text)
