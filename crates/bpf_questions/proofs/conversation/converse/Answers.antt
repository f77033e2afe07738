use Rattle.std.proofs.Common.{Ok, Option, ap, refl, sym, ◌∙◌}
use Rattle.bpf_questions.proofs.Talking.{Talking-last, Talking-missing, Talking-quit, Talking-start, Talking-step, Talking-unanswered, Talking-unread, fails-unanswered, fails-unread}
use Rattle.bpf_questions.specs.declared.stop.Past.{Past}
use Rattle.bpf_questions.proofs.conversation.converse.Goals as goal

pub lines-init : goal.lines-init
lines-init g c = Talking-start _ _ _ _ _ _ _ _ _

pub returns-in-Err-clause-broken : goal.returns-in-Err-clause-broken
returns-in-Err-clause-broken g c =
    Talking-unread _ _ _ _ _ _ _ c.lines.session c.lines.session _ _ _ c.next_line.new.reader _ c.lines.writer c.lines.writer c.next_line.new.line c.lines.invariant _ (rw c.in-Err.is at c.next_line.ensures)

pub returns-in-Err-clause-err : goal.returns-in-Err-clause-err
returns-in-Err-clause-err g c =
    fails-unread _ _ _ _ _ _ _ c.lines.session c.lines.session _ _ _ _ _ c.lines.writer c.lines.writer _ c.lines.invariant _ (rw c.in-Err.is at c.next_line.ensures)

pub returns-then-is_missing-clause-value : goal.returns-then-is_missing-clause-value
returns-then-is_missing-clause-value g c =
    Talking-missing _ _ _ _ _ _ _ c.lines.session c.lines.session _ _ _ _ _ c.lines.writer c.lines.writer _ c.lines.invariant _ (rw c.in-Ok.is at c.next_line.ensures) (sym c.is_missing.ensures ∙ c.if-is_missing.true)

pub returns-in-Err-tell_line-clause-broken : goal.returns-in-Err-tell_line-clause-broken
returns-in-Err-tell_line-clause-broken g c =
    Talking-unanswered _ _ _ _ _ _ _ c.lines.session c.tell_line.new.session _ _ _ _ _ c.lines.writer c.tell_line.new.writer _ c.lines.invariant _ _ (rw c.in-Ok.is at c.next_line.ensures)
    (sym c.is_missing.ensures ∙ c.if-is_missing.false) (rw c.in-Err-tell_line.is at c.tell_line.ensures.tells)

pub returns-in-Ok-None-clause-value : goal.returns-in-Ok-None-clause-value
returns-in-Ok-None-clause-value g c =
    Talking-quit _ _ _ _ _ _ _ c.lines.session c.tell_line.new.session _ _ _ _ _ c.lines.writer c.tell_line.new.writer _ c.lines.invariant _ (rw c.in-Ok.is at c.next_line.ensures)
    (sym c.is_missing.ensures ∙ c.if-is_missing.false) (rw (c.in-Ok-None.is ∙ ap Ok c.in-Ok-None.field-0-is) at c.tell_line.ensures.tells)

pub returns-then-is_last-clause-value : goal.returns-then-is_last-clause-value
returns-then-is_last-clause-value g c =
    Talking-last _ _ _ _ _ _ _ c.lines.session c.tell_line.new.session _ _ _ _ _ c.lines.writer c.tell_line.new.writer _ c.lines.invariant _ _ (rw c.in-Ok.is at c.next_line.ensures)
    (sym c.is_last.ensures ∙ c.if-is_last.true) (rw (c.in-Ok-Some.is ∙ ap Ok c.in-Ok-Some.field-0-is) at c.tell_line.ensures.tells)

pub returns-in-Err-tell_line-clause-err : goal.returns-in-Err-tell_line-clause-err
returns-in-Err-tell_line-clause-err g c =
    fails-unanswered _ _ _ _ _ _ _ c.lines.session c.tell_line.new.session _ _ _ _ _ c.lines.writer c.tell_line.new.writer _ c.lines.invariant (Option Past) _ _ (rw c.in-Ok.is at c.next_line.ensures)
    (rw c.in-Err-tell_line.is at c.tell_line.ensures.counts)

pub returns-in-Ok-None-clause-ok : goal.returns-in-Ok-None-clause-ok
returns-in-Ok-None-clause-ok g c =
    let r = rw c.in-Ok.is at c.next_line.ensures in
    let counts = rw (c.in-Ok-None.is ∙ ap Ok c.in-Ok-None.field-0-is) at c.tell_line.ensures.counts in
    (r.same ∙ c.lines.invariant.read, counts ∙ c.lines.invariant.wrote)

pub returns-then-is_last-clause-ok : goal.returns-then-is_last-clause-ok
returns-then-is_last-clause-ok g c =
    let r = rw c.in-Ok.is at c.next_line.ensures in
    let counts = rw (c.in-Ok-Some.is ∙ ap Ok c.in-Ok-Some.field-0-is) at c.tell_line.ensures.counts in
    (r.same ∙ c.lines.invariant.read, counts ∙ c.lines.invariant.wrote)

pub lines-preserved : goal.lines-preserved
lines-preserved g c =
    Talking-step _ _ _ _ _ _ _ c.lines.session c.tell_line.new.session _ _ _ _ _ c.lines.writer c.tell_line.new.writer _ c.lines.invariant _ _ _ refl c.saturating_add.ensures (rw c.in-Ok.is at c.next_line.ensures)
    (sym c.is_missing.ensures ∙ c.if-is_missing.false) (rw (c.in-Ok-Some.is ∙ ap Ok c.in-Ok-Some.field-0-is) at c.tell_line.ensures.tells)
    (rw (c.in-Ok-Some.is ∙ ap Ok c.in-Ok-Some.field-0-is) at c.tell_line.ensures.counts)
