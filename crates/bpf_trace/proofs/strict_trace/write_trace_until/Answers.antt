use Rattle.std.proofs.Common.{refl}
use Rattle.counted_io.proofs.Appending.{Writes-none, WritesAfter-WritesAfter}
use Rattle.bpf_trace.proofs.Lines.{with_last}
use Rattle.bpf_trace.proofs.Telling.{told-ok, told-lost}
use Rattle.bpf_trace.proofs.strict_trace.write_trace_until.Goals as goal

pub put_read-requires-clause-words : goal.put_read-requires-clause-words
put_read-requires-clause-words g c = λ is. c.in-Ok.ensures.members is c.args.read.now.slot

pub put_read-requires-clause-called : goal.put_read-requires-clause-called
put_read-requires-clause-called g c = λ is. rw c.as_slice.ensures.value (c.in-Ok-called_in.ensures is)

pub returns-in-Ok-put_read : goal.returns-in-Ok-put_read
returns-in-Ok-put_read g c =
    let whole = WritesAfter-WritesAfter g.W.Write.contents _ _ _ _ _ _ _ _ _ c.put_rows-told.ensures c.put_read.ensures (with_last c.args.shown _ _) in
    told-ok g.W.Write.contents _ _ _ _ _ _ _ (whole _ _ (Writes-none g.W.Write.contents c.args.writer.now _)) c.in-Ok-put_read.is refl

pub returns : goal.returns
returns g c =
    let whole = WritesAfter-WritesAfter g.W.Write.contents _ _ _ _ _ _ _ _ _ c.put_rows-told.ensures c.put_read.ensures (with_last c.args.shown _ _) in
    told-lost g.W.Write.contents _ _ _ _ _ _ (whole _ _ (Writes-none g.W.Write.contents c.args.writer.now _)) c.in-Err-put_read.is refl
