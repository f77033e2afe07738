use Rattle.bpf_origin.proofs.Leaving.{law_told}
use Rattle.bpf_origin.proofs.Meaning.{law_left}
use Rattle.bpf_origin.proofs.laws.what_is_left_is_all.Goals as goal

pub returns : goal.returns
returns c = record { all = law_left; told = law_told }
