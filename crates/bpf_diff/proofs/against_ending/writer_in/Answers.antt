use Rattle.std.proofs.Common.{◌∙◌}
use Rattle.bpf_diff.proofs.TraceLines.{not_zero}
use Rattle.bpf_diff.proofs.against_ending.writer_in.Goals as goal

pub returns-then-entry-eq0 : goal.returns-then-entry-eq0
returns-then-entry-eq0 c = λ before are. rw c.if-entry-eq0.true (c.last_step.ensures ∙ are.last)

pub returns-else-entry-eq0 : goal.returns-else-entry-eq0
returns-else-entry-eq0 c = λ before are. rw (not_zero c.args.entry c.if-entry-eq0.false) (c.writer_of.ensures before are)
