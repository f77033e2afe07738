use Rattle.bpf_suite.proofs.Patterns.{length_text-some}
use Rattle.bpf_suite.proofs.contexts.put_length.Goals as goal

pub returns : goal.returns
returns g c = λ first front known. rw (length_text-some c.args.came c.args.wanted c.if-came-wanted.false) (c.put_all.ensures first front known)
