use Rattle.bpf_origin.proofs.EachMatters.{law_matters}
use Rattle.bpf_origin.proofs.laws.each_read_matters.Goals as goal

pub returns : goal.returns
returns c = law_matters
