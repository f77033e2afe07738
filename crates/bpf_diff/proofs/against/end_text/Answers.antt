use Rattle.counted_io.proofs.Appending.{Writes-none}
use Rattle.bpf_diff.proofs.against.end_text.Goals as goal

pub returns-in-Ok : goal.returns-in-Ok
returns-in-Ok c =
    let written = c.in-Ok.ensures _ _ (Writes-none _ c.new-writer.result _) in
    rw c.into_inner.ensures (rw (c.new-writer.ensures, c.new.ensures.items) at written.ok)
