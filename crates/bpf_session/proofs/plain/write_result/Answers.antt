use Rattle.counted_io.proofs.Appending.{Writes-none}
use Rattle.bpf_session.proofs.Flushing.{Writes-flushed, Writes-unflushed}
use Rattle.bpf_session.proofs.plain.write_result.Goals as goal

pub returns-in-Err : goal.returns-in-Err
returns-in-Err g c =
    let told = c.put_hexadecimal-told.ensures _ _ (Writes-none g.W.Write.contents c.args.writer.now _) in
    rw c.in-Err.is at (c.put.ensures _ _ told)

pub returns-in-Ok-flush : goal.returns-in-Ok-flush
returns-in-Ok-flush g c =
    let told = c.put_hexadecimal-told.ensures _ _ (Writes-none g.W.Write.contents c.args.writer.now _) in
    let whole = rw c.in-Ok.is at (c.put.ensures _ _ told) in
    Writes-flushed g.W.Write.contents c.args.writer.now _ _ _ _ _ whole c.in-Ok-flush.ensures.bytes c.in-Ok-flush.ensures.fault

pub returns-in-Err-flush : goal.returns-in-Err-flush
returns-in-Err-flush g c =
    let told = c.put_hexadecimal-told.ensures _ _ (Writes-none g.W.Write.contents c.args.writer.now _) in
    let whole = rw c.in-Ok.is at (c.put.ensures _ _ told) in
    Writes-unflushed g.W.Write.contents c.args.writer.now _ _ _ _ _ whole c.in-Err-flush.ensures.bytes c.in-Err-flush.ensures.fault
