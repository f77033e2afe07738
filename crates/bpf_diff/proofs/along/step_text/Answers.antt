use Rattle.counted_io.proofs.Appending.{Writes-none}
use Rattle.bpf_diff.proofs.along.step_text.Goals as goal

pub returns-in-Ok : goal.returns-in-Ok
returns-in-Ok c = λ x t.
    let written = c.in-Ok.ensures x t _ _ (Writes-none _ c.new-writer.result _) in
    rw c.into_inner.ensures (rw (c.new-writer.ensures, c.new.ensures.items) at written.ok)
