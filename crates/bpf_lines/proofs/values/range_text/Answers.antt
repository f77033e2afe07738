use Rattle.counted_io.proofs.Appending.{Writes-none}
use Rattle.bpf_lines.proofs.values.range_text.Goals as goal

pub returns-in-Ok : goal.returns-in-Ok
returns-in-Ok c =
    let written = rw c.in-Ok.is at (c.put_range.ensures _ _ (Writes-none _ c.new-writer.result _)) in
    rw c.into_inner.ensures (rw (c.new-writer.ensures, c.new.ensures.items) at written.ok)
