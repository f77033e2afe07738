use Rattle.bpf_whynot.proofs.Keeping.{marks_deeper, marks_here}
use Rattle.bpf_whynot.proofs.keep.Keep.marks.Goals as goal

pub returns-then-depth-own : goal.returns-then-depth-own
returns-then-depth-own c = λ program tells. rw c.as_slice.ensures.value (marks_here program c.args.self.now c.args.depth tells c.if-depth-own.true)

pub returns-else-depth-own : goal.returns-else-depth-own
returns-else-depth-own c = λ program tells. rw c.as_slice-else-depth-own.ensures.value (marks_deeper program c.args.self.now c.args.depth tells c.if-depth-own.false)
