use Rattle.std.proofs.Common.{Ok, ap, sym, ◌∙◌}
use Rattle.bpf_session.proofs.Running.{Running-start, Running-unread, Running-missing, Running-quit, Running-last, Running-step, Running-unwritten}
use Rattle.bpf_session.proofs.script.run.Goals as goal

pub lines-init : goal.lines-init
lines-init g c = Running-start _ _ _ _ _ _ _ _

pub returns-in-Err-clause-broken : goal.returns-in-Err-clause-broken
returns-in-Err-clause-broken g c =
    Running-unread _ _ _ _ _ _ _ c.lines.session _ _ _ _ _ c.lines.writer _ c.lines.invariant _ (rw c.in-Err.is at c.next_line.ensures)

pub returns-then-is_missing-clause-value : goal.returns-then-is_missing-clause-value
returns-then-is_missing-clause-value g c =
    Running-missing _ _ _ _ _ _ _ c.lines.session _ _ _ _ _ c.lines.writer _ c.lines.invariant _
    (rw c.in-Ok.is at c.next_line.ensures)
    (sym c.is_missing.ensures ∙ c.if-is_missing.true)

pub returns-in-Err-obey-clause-broken : goal.returns-in-Err-obey-clause-broken
returns-in-Err-obey-clause-broken g c =
    Running-unwritten _ _ _ _ _ _ _ _ _ _ _ _ _ _ _ c.lines.invariant _ _
    (rw c.in-Ok.is at c.next_line.ensures)
    (sym c.is_missing.ensures ∙ c.if-is_missing.false)
    (rw c.in-Err-obey.is at c.obey.ensures.value)

pub returns-then-not-goes_on-clause-value : goal.returns-then-not-goes_on-clause-value
returns-then-not-goes_on-clause-value g c =
    Running-quit _ _ _ _ _ _ _ _ _ _ _ _ _ _ _ c.lines.invariant _
    (rw c.in-Ok.is at c.next_line.ensures)
    (sym c.is_missing.ensures ∙ c.if-is_missing.false)
    (rw (c.in-Ok-obey.is ∙ ap Ok c.if-not-goes_on.true) at c.obey.ensures.value)

pub returns-then-is_last-clause-value : goal.returns-then-is_last-clause-value
returns-then-is_last-clause-value g c =
    Running-last _ _ _ _ _ _ _ _ _ _ _ _ _ _ _ c.lines.invariant _
    (rw c.in-Ok.is at c.next_line.ensures)
    (sym c.is_last.ensures ∙ c.if-is_last.true)
    (rw (c.in-Ok-obey.is ∙ ap Ok c.if-not-goes_on.false) at c.obey.ensures.value)

pub lines-preserved : goal.lines-preserved
lines-preserved g c =
    Running-step _ _ _ _ _ _ _ _ _ _ _ _ _ _ _ c.lines.invariant _
    (rw c.in-Ok.is at c.next_line.ensures)
    (sym c.is_missing.ensures ∙ c.if-is_missing.false)
    (sym c.is_last.ensures ∙ c.if-is_last.false)
    (rw (c.in-Ok-obey.is ∙ ap Ok c.if-not-goes_on.false) at c.obey.ensures.value)
    c.in-Ok-obey.ensures.fault
    c.obey.ensures.bounds
