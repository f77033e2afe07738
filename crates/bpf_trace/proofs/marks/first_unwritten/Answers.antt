use Rattle.bpf_trace.proofs.Marking.{span-some, span-none}
use Rattle.std.proofs.Common.{arith}
use Rattle.bpf_trace.proofs.marks.first_unwritten.Goals as goal

pub returns-then-at-span : goal.returns-then-at-span
returns-then-at-span c = λ before m.
    span-some before c.args.marks.now m c.args.address c.args.len _ _ c.first_unmarked-at.result c.span_of-span.ensures.from c.span_of-span.ensures.to
    c.first_unmarked-at.ensures.before c.first_unmarked-at.ensures.within.0 c.if-at-span.true (c.first_unmarked-at.ensures.found c.if-at-span.true)

pub returns-else-at-span : goal.returns-else-at-span
returns-else-at-span c = λ before m.
    span-none before c.args.marks.now m c.args.address c.args.len _ _ c.first_unmarked-at.result c.span_of-span.ensures.from c.span_of-span.ensures.to
    c.first_unmarked-at.ensures.before c.if-at-span.false (omega arith)
