use Rattle.std.proofs.Common.{◌≡◌, ◌∙◌, List, ap, ap₂, false, sym, true, ℕ}
use Rattle.counted_io.proofs.Appending.{WritesAfter-text}
use Rattle.bpf_trace.specs.Traces.{end_line}
use Rattle.bpf_diff.specs.Against.{is_line, unplaced}
use Rattle.bpf_diff.proofs.Tracing.{none-text, none-told, other-text, other-told, told-text, told-told}
use Rattle.bpf_diff.proofs.against.put_at_end.Goals as goal

pub returns-in-None-clause-text : goal.returns-in-None-clause-text
returns-in-None-clause-text g c = λ left is.
    WritesAfter-text g.W.Write.contents _ _ _ _ _ _ (c.put_no_end.ensures c.args.halt.now.steps)
    (none-text c.args.limit c.args.halt.now.steps c.args.cpu.now left _ (rw c.in-None.is at is))

pub returns-in-None-clause-told : goal.returns-in-None-clause-told
returns-in-None-clause-told g c = λ left is. none-told c.args.limit c.args.cpu.now left _ (rw c.in-None.is at is)

pub returns-then-is_line-clause-text : goal.returns-then-is_line-clause-text
returns-then-is_line-clause-text g c = λ left is.
    let does : is_line (end_line c.args.limit c.args.cpu.now) (unplaced c.in-Some.line.now) ≡ true =
    ap₂ is_line (sym c.in-Ok.ensures ∙ sym c.as_slice.ensures.value) (sym c.unplaced.ensures) ∙ sym c.is_line.ensures ∙ c.if-is_line.true in
    WritesAfter-text g.W.Write.contents _ _ _ _ _ _ c.put_behind_end.ensures.text
    (told-text c.args.limit c.args.halt.now.steps c.args.cpu.now c.in-Some.line left _ (rw c.in-Some.is at is)
    c.next_told.result _ c.next_told.ensures does)

pub returns-then-is_line-clause-told : goal.returns-then-is_line-clause-told
returns-then-is_line-clause-told g c = λ left is.
    let does : is_line (end_line c.args.limit c.args.cpu.now) (unplaced c.in-Some.line.now) ≡ true =
    ap₂ is_line (sym c.in-Ok.ensures ∙ sym c.as_slice.ensures.value) (sym c.unplaced.ensures) ∙ sym c.is_line.ensures ∙ c.if-is_line.true in
    c.put_behind_end.ensures.told
    ∙ told-told c.args.limit c.args.halt.now.steps c.args.cpu.now c.in-Some.line left _ (rw c.in-Some.is at is)
    c.next_told.result _ c.next_told.ensures does

pub returns-clause-text : goal.returns-clause-text
returns-clause-text g c = λ left is.
    let isnt : is_line (end_line c.args.limit c.args.cpu.now) (unplaced c.in-Some.line.now) ≡ false =
    ap₂ is_line (sym c.in-Ok.ensures ∙ sym c.as_slice.ensures.value) (sym c.unplaced.ensures) ∙ sym c.is_line.ensures ∙ c.if-is_line.false in
    WritesAfter-text g.W.Write.contents _ _ _ _ _ _ c.put_other_end.ensures
    (other-text c.args.limit c.args.halt.now.steps c.args.cpu.now c.in-Some.line left _ (rw c.in-Some.is at is) isnt)

pub returns-clause-told : goal.returns-clause-told
returns-clause-told g c = λ left is.
    let isnt : is_line (end_line c.args.limit c.args.cpu.now) (unplaced c.in-Some.line.now) ≡ false =
    ap₂ is_line (sym c.in-Ok.ensures ∙ sym c.as_slice.ensures.value) (sym c.unplaced.ensures) ∙ sym c.is_line.ensures ∙ c.if-is_line.false in
    other-told c.args.limit c.args.halt.now.steps c.args.cpu.now c.in-Some.line left _ (rw c.in-Some.is at is) isnt
