use Rattle.std.proofs.Common.{Ok, ap, ◌∙◌}
use Rattle.bpfdb_script.proofs.Readings.{Reading-more, Reading-line, Reading-fail, Reading-missing, Reading-last}
use Rattle.bpfdb_script.proofs.line.next_line.Goals as goal

pub returns-in-Err : goal.returns-in-Err
returns-in-Err g c = Reading-fail _ _ _ _ _ _ c.loop-fault.invariant (rw c.in-Err.is at c.read_byte.ensures)

pub returns-then-is_empty : goal.returns-then-is_empty
returns-then-is_empty g c =
    let e = c.in-Ok-None.is ∙ ap Ok c.in-Ok-None.field-0-is in
    Reading-missing _ _ _ _ _ _ c.loop-fault.invariant (rw e at c.read_byte.ensures) c.is_empty.ensures c.if-is_empty.true

pub returns-in-Ok-None : goal.returns-in-Ok-None
returns-in-Ok-None g c =
    let e = c.in-Ok-None.is ∙ ap Ok c.in-Ok-None.field-0-is in
    Reading-last _ _ _ _ _ _ c.loop-fault.invariant (rw e at c.read_byte.ensures) c.is_empty.ensures c.if-is_empty.false

pub returns-then-byte-eq10 : goal.returns-then-byte-eq10
returns-then-byte-eq10 g c =
    let e = c.in-Ok-Some.is ∙ ap Ok c.in-Ok-Some.field-0-is in
    Reading-line _ _ _ _ _ _ c.loop-fault.invariant (rw e at c.read_byte.ensures) c.if-byte-eq10.true

pub loop-fault-preserved : goal.loop-fault-preserved
loop-fault-preserved g c =
    let e = c.in-Ok-Some.is ∙ ap Ok c.in-Ok-Some.field-0-is in
    Reading-more _ _ _ _ _ _ _ c.loop-fault.invariant (rw e at c.read_byte.ensures) c.if-byte-eq10.false c.push.ensures
