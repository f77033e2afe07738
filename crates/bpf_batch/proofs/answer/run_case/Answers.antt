use Rattle.std.proofs.Common.{Ok, ap, ◌∙◌}
use Rattle.std.proofs.lemmas.List.{append-nil}
use Rattle.counted_io.proofs.Appending.{Writes-none, Writes-text}
use Rattle.bpf_batch.proofs.Ran.{ran-exited, ran-faulted, ran-limited, ran-unwritten}
use Rattle.bpf_batch.proofs.answer.run_case.Goals as goal

pub returns-in-Ok-Exited-clause-told : goal.returns-in-Ok-Exited-clause-told
returns-in-Ok-Exited-clause-told g c =
    let e = c.in-Ok-Exited.is ∙ ap Ok c.in-Ok-Exited.field-0-is in
    ran-exited g.W.Write.contents c.args.limit c.args.cpu.now _ c.args.writer.now _ _ (rw e at c.run_plain.ensures)

pub returns-in-Ok-Faulted-clause-told : goal.returns-in-Ok-Faulted-clause-told
returns-in-Ok-Faulted-clause-told g c =
    let e = c.in-Ok-Faulted.is ∙ ap Ok c.in-Ok-Faulted.field-0-is in
    ran-faulted g.W.Write.contents c.args.limit c.args.cpu.now _ c.args.writer.now _ _ _ (rw e at c.run_plain.ensures) c.put_place_line.ensures

pub returns-in-Ok-Limit-clause-told : goal.returns-in-Ok-Limit-clause-told
returns-in-Ok-Limit-clause-told g c =
    let e = c.in-Ok-Limit.is ∙ ap Ok c.in-Ok-Limit.field-0-is in
    let limited = rw c.pc.ensures at (c.put_limit-limited.ensures _ _ (Writes-none g.W.Write.contents c.run_plain.new.writer _)) in
    ran-limited g.W.Write.contents c.args.limit c.args.cpu.now _ c.args.writer.now _ _ _ (rw e at c.run_plain.ensures)
    (Writes-text g.W.Write.contents _ _ _ _ _ (c.flush_after.ensures _ _ limited) (append-nil _))

pub returns-in-Err-clause-told : goal.returns-in-Err-clause-told
returns-in-Err-clause-told g c =
    ran-unwritten g.W.Write.contents c.args.limit c.args.cpu.now _ c.args.writer.now _ c.in-Err.field-0 _ (rw c.in-Err.is at c.run_plain.ensures)
