use Rattle.counted_io.proofs.Appending.{Writes-none}
use Rattle.bpf_questions.proofs.answers.named.Goals as goal

pub returns-in-Ok : goal.returns-in-Ok
returns-in-Ok c =
    let w = rw c.in-Ok.is at (rw c.as_slice.ensures.value at (c.put_named.ensures _ _ (Writes-none _ c.new-writer.result _))) in
    rw c.in-Some.is (rw c.into_inner.ensures (rw (c.new-writer.ensures, c.new.ensures.items) at w.ok))
