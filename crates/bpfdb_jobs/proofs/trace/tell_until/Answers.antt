use Rattle.bpf_session.proofs.Flushing.{Writes-flushed, Writes-unflushed}
use Rattle.bpfdb_jobs.proofs.trace.tell_until.Goals as goal

pub returns-in-Err : goal.returns-in-Err
returns-in-Err g c = rw c.in-Err.is at c.write_trace_until.ensures

pub returns-in-Ok-flush : goal.returns-in-Ok-flush
returns-in-Ok-flush g c =
    let whole = rw c.in-Ok.is at c.write_trace_until.ensures in
    Writes-flushed g.W.Write.contents c.args.writer.now _ _ _ _ _ whole c.in-Ok-flush.ensures.bytes c.in-Ok-flush.ensures.fault

pub returns-in-Err-flush : goal.returns-in-Err-flush
returns-in-Err-flush g c =
    let whole = rw c.in-Ok.is at c.write_trace_until.ensures in
    Writes-unflushed g.W.Write.contents c.args.writer.now _ _ _ _ _ whole c.in-Err-flush.ensures.bytes c.in-Err-flush.ensures.fault
