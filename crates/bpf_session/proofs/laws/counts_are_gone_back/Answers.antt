use Rattle.bpf_session.proofs.BackwardLaws.{counts-are-gone-back}
use Rattle.bpf_session.proofs.laws.counts_are_gone_back.Goals as goal

pub returns : goal.returns
returns c = counts-are-gone-back
