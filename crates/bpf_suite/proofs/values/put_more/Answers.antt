use Rattle.bpf_suite.proofs.Told.{more_text-some}
use Rattle.bpf_suite.proofs.values.put_more.Goals as goal

pub returns : goal.returns
returns g c = λ first front known. rw (more_text-some c.args.more c.if-more-eq0.false) (c.put_all.ensures first front known)
