use Rattle.bpf_session.proofs.BackwardLaws.{moves-are-taken-back}
use Rattle.bpf_session.proofs.laws.moves_are_taken_back.Goals as goal

pub returns : goal.returns
returns c = moves-are-taken-back
