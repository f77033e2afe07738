use Rattle.std.proofs.Common.{◌∙◌}
use Rattle.bpf_diff.proofs.TraceLines.{line-no, line-none, line-yes, not-ten}
use Rattle.bpf_diff.proofs.along.is_line.Goals as goal

pub returns-then-last-eq10 : goal.returns-then-last-eq10
returns-then-last-eq10 c =
    c.eq.ensures ∙ line-yes c.args.text.now c.in-Some.front.now c.args.line.now c.in-Some.last.now c.in-Some.ensures.cases.0 c.if-last-eq10.true

pub returns-else-last-eq10 : goal.returns-else-last-eq10
returns-else-last-eq10 c =
    not-ten c.in-Some.last.now c.if-last-eq10.false
    ∙ line-no c.args.text.now c.in-Some.front.now c.args.line.now c.in-Some.last.now c.in-Some.ensures.cases.0 c.if-last-eq10.false

pub returns-in-None : goal.returns-in-None
returns-in-None c = line-none c.args.text.now c.args.line.now c.in-None.ensures.cases
