use Rattle.bpf_origin.proofs.Alike.{law_goes}
use Rattle.bpf_origin.proofs.laws.steps_go_by_conditions.Goals as goal

pub returns : goal.returns
returns c = law_goes
