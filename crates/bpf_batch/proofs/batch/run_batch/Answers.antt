use Rattle.std.proofs.Common.{Option, sym, ◌∙◌}
use Rattle.bpf_steps.specs.State.{State}
use Rattle.bpf_batch.proofs.Answering.{Answering-last, Answering-missing, Answering-start, Answering-step, Answering-unanswered, Answering-unread, fails-unanswered, fails-unread}
use Rattle.bpf_batch.proofs.batch.run_batch.Goals as goal

pub lines-init : goal.lines-init
lines-init g c = Answering-start _ _ _ _ _ _ c.new-ahead.ensures

pub returns-in-Err-clause-broken : goal.returns-in-Err-clause-broken
returns-in-Err-clause-broken g c =
    rw c.fault_of.ensures (Answering-unread _ _ _ _ _ c.next_line.new.reader _ c.next_line.new.ahead _ _ c.lines.writer _ c.next_line.new.line c.lines.invariant _)

pub returns-in-Err-clause-err : goal.returns-in-Err-clause-err
returns-in-Err-clause-err g c =
    rw c.fault_of.ensures (fails-unread _ _ _ _ _ _ _ _ _ _ c.lines.writer _ _ c.lines.invariant _ (rw c.in-Err.is at c.next_line.ensures))

pub returns-then-is_missing-clause-value : goal.returns-then-is_missing-clause-value
returns-then-is_missing-clause-value g c =
    Answering-missing _ _ _ _ _ _ _ _ _ _ c.lines.writer _ _ c.lines.invariant _ (rw c.in-Ok.is at c.next_line.ensures) (sym c.is_missing.ensures ∙ c.if-is_missing.true)

pub returns-in-Err-answer_line-clause-broken : goal.returns-in-Err-answer_line-clause-broken
returns-in-Err-answer_line-clause-broken g c =
    Answering-unanswered _ _ _ _ _ _ _ _ _ _ _ _ _ c.lines.invariant _ _ _ (rw c.in-Ok.is at c.next_line.ensures)
    (sym c.is_missing.ensures ∙ c.if-is_missing.false) (rw c.in-Err-answer_line.is at c.answer_line.ensures.value)

pub returns-in-Err-answer_line-clause-err : goal.returns-in-Err-answer_line-clause-err
returns-in-Err-answer_line-clause-err g c =
    fails-unanswered _ _ _ _ _ _ _ _ _ _ _ _ _ c.lines.invariant (Option State) _ _ (rw c.in-Ok.is at c.next_line.ensures)
    (rw c.in-Err-answer_line.is at c.answer_line.ensures.fault)

pub returns-then-is_last-clause-value : goal.returns-then-is_last-clause-value
returns-then-is_last-clause-value g c =
    Answering-last _ _ _ _ _ _ _ _ _ _ _ _ _ c.lines.invariant _ _ (rw c.in-Ok.is at c.next_line.ensures) (sym c.is_last.ensures ∙ c.if-is_last.true)
    (rw c.in-Ok-answer_line.is at c.answer_line.ensures.value)

pub lines-preserved : goal.lines-preserved
lines-preserved g c =
    Answering-step _ _ _ _ _ _ _ _ _ _ _ _ _ c.lines.invariant _ _ (rw c.in-Ok.is at c.next_line.ensures) (sym c.is_missing.ensures ∙ c.if-is_missing.false)
    (rw c.in-Ok-answer_line.is at c.answer_line.ensures.value) (rw c.in-Ok-answer_line.is at c.answer_line.ensures.kept)
    (rw c.in-Ok-answer_line.is at c.answer_line.ensures.fault)

pub returns-then-is_missing-clause-ok : goal.returns-then-is_missing-clause-ok
returns-then-is_missing-clause-ok g c =
    let r = rw c.in-Ok.is at c.next_line.ensures in
    (r.same ∙ c.lines.invariant.read, c.lines.invariant.wrote)

pub answer_line-requires : goal.answer_line-requires
answer_line-requires g c = record { kept = c.lines.invariant.suits }

pub returns-then-is_last-clause-ok : goal.returns-then-is_last-clause-ok
returns-then-is_last-clause-ok g c =
    let r = rw c.in-Ok.is at c.next_line.ensures in
    let counts = rw c.in-Ok-answer_line.is at c.answer_line.ensures.fault in
    (r.same ∙ c.lines.invariant.read, counts ∙ c.lines.invariant.wrote)
