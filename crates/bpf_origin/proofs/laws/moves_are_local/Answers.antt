use Rattle.bpf_origin.proofs.Keeping.{law_places}
use Rattle.bpf_origin.proofs.laws.moves_are_local.Goals as goal

pub returns : goal.returns
returns c = law_places
