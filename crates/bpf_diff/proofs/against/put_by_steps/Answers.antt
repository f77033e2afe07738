use Rattle.std.proofs.Common.{◌∙◌, arith, reverse, sym, take}
use Rattle.counted_io.proofs.Appending.{WritesAfter-text}
use Rattle.bpf_trace.specs.Runs.{steps_of}
use Rattle.input_texts.specs.declared.trace_form.Form.TheVariants.{Steps}
use Rattle.bpf_diff.proofs.Tracing.{map-ok, otherwise-text, otherwise-told, over-text, over-told, took-start}
use Rattle.bpf_diff.proofs.against.put_by_steps.Goals as goal

pub put_step_otherwise-requires-clause-number : goal.put_step_otherwise-requires-clause-number
put_step_otherwise-requires-clause-number g c =
    let p = rw c.in-Some.is at c.in-Ok.ensures in
    omega (arith, p.2, c.ranges.limit.fits)

pub put_step_otherwise-requires-clause-start : goal.put_step_otherwise-requires-clause-start
put_step_otherwise-requires-clause-start g c =
    let p = rw c.in-Some.is at c.in-Ok.ensures in
    took-start p.0 c.follow_steps.new.cpu c.in-Some.taken p.4

pub returns-in-Some-clause-text : goal.returns-in-Some-clause-text
returns-in-Some-clause-text g c =
    let p = rw c.in-Some.is at c.in-Ok.ensures in
    let n = c.in-Ok.at.halt.steps in
    WritesAfter-text g.W.Write.contents _ _ _ _ _ _
    (c.put_step_otherwise.ensures (reverse (take n (steps_of c.args.limit c.args.cpu.now))) p.0 p.4)
    (otherwise-text Steps c.args.limit c.args.cpu.now c.args.lines.now p.0 n c.in-Ok.at.halt.line _ p.1 p.2 p.3 p.5)

pub returns-in-Some-clause-told : goal.returns-in-Some-clause-told
returns-in-Some-clause-told g c =
    let p = rw c.in-Some.is at c.in-Ok.ensures in
    otherwise-told Steps c.args.limit c.args.cpu.now c.args.lines.now p.0 c.in-Ok.at.halt.steps c.in-Ok.at.halt.line _ p.1 p.2 p.3 p.5

pub returns-in-None-clause-text : goal.returns-in-None-clause-text
returns-in-None-clause-text g c =
    let p = rw c.in-None.is at c.in-Ok.ensures in
    let a = c.follow_steps.new.cpu in
    map-ok c.put_at_end.result _ _
    (λ against writes.
    WritesAfter-text g.W.Write.contents _ _ _ _ _ _ (writes p.0.left p.0.next)
    (sym (over-text Steps c.args.limit c.args.cpu.now c.args.lines.now a p.0.left c.in-Ok.at.halt.steps p.0.along p.1)))
    c.put_at_end.ensures.text

pub returns-in-None-clause-told : goal.returns-in-None-clause-told
returns-in-None-clause-told g c =
    let p = rw c.in-None.is at c.in-Ok.ensures in
    let a = c.follow_steps.new.cpu in
    map-ok c.put_at_end.result _ _
    (λ against is.
    is p.0.left p.0.next ∙ over-told Steps c.args.limit c.args.cpu.now c.args.lines.now a p.0.left c.in-Ok.at.halt.steps p.0.along p.1)
    c.put_at_end.ensures.told
