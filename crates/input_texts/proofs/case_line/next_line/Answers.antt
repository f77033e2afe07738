use Rattle.std.proofs.Common.{Ok, ap, ◌∙◌}
use Rattle.input_texts.proofs.CaseReadings.{Reading-more, Reading-line, Reading-fail, Reading-full, Reading-missing, Reading-last}
use Rattle.input_texts.proofs.case_line.next_line.Goals as goal

pub returns-in-Ok-true : goal.returns-in-Ok-true
returns-in-Ok-true g c =
    Reading-line _ _ _ _ _ _ _ c.parts.invariant _ (rw (c.in-Ok-true.is ∙ ap Ok c.in-Ok-true.field-0-test) at c.take.ensures)

pub parts-preserved : goal.parts-preserved
parts-preserved g c =
    Reading-more _ _ _ _ _ _ _ c.parts.invariant _ (rw (c.in-Ok-false.is ∙ ap Ok c.in-Ok-false.field-0-test) at c.take.ensures) _ _
    (rw (c.in-Ok-true-refill.is ∙ ap Ok c.in-Ok-true-refill.field-0-test) at c.refill.ensures)

pub returns-then-is_empty : goal.returns-then-is_empty
returns-then-is_empty g c =
    Reading-missing _ _ _ _ _ _ _ c.parts.invariant _ (rw (c.in-Ok-false.is ∙ ap Ok c.in-Ok-false.field-0-test) at c.take.ensures) _ _ _
    (rw (c.in-Ok-false-refill.is ∙ ap Ok c.in-Ok-false-refill.field-0-test) at c.refill.ensures) c.is_empty.ensures c.if-is_empty.true

pub returns-in-Ok-false-refill : goal.returns-in-Ok-false-refill
returns-in-Ok-false-refill g c =
    Reading-last _ _ _ _ _ _ _ c.parts.invariant _ (rw (c.in-Ok-false.is ∙ ap Ok c.in-Ok-false.field-0-test) at c.take.ensures) _ _ _
    (rw (c.in-Ok-false-refill.is ∙ ap Ok c.in-Ok-false-refill.field-0-test) at c.refill.ensures) c.is_empty.ensures c.if-is_empty.false
