use Rattle.bpf_session.proofs.Flushing.{Writes-flushed, Writes-unflushed}
use Rattle.bpfdb_jobs.proofs.trace.tell_run.Goals as goal

pub returns-in-Err-clause-told : goal.returns-in-Err-clause-told
returns-in-Err-clause-told g c = rw c.in-Err.is at c.write_run.ensures.told

pub returns-in-Ok-flush-clause-told : goal.returns-in-Ok-flush-clause-told
returns-in-Ok-flush-clause-told g c =
    let whole = rw c.in-Ok.is at c.write_run.ensures.told in
    Writes-flushed g.W.Write.contents c.args.writer.now _ _ _ _ _ whole c.in-Ok-flush.ensures.bytes c.in-Ok-flush.ensures.fault

pub returns-in-Err-flush-clause-told : goal.returns-in-Err-flush-clause-told
returns-in-Err-flush-clause-told g c =
    let whole = rw c.in-Ok.is at c.write_run.ensures.told in
    Writes-unflushed g.W.Write.contents c.args.writer.now _ _ _ _ _ whole c.in-Err-flush.ensures.bytes c.in-Err-flush.ensures.fault
