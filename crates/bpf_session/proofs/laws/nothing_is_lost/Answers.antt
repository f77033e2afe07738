use Rattle.bpf_session.proofs.RedoLaws.{nothing-is-lost}
use Rattle.bpf_session.proofs.laws.nothing_is_lost.Goals as goal

pub returns : goal.returns
returns c = nothing-is-lost
