use Rattle.bpf_session.proofs.RedoLaws.{sessions-are-placed}
use Rattle.bpf_session.proofs.laws.sessions_are_placed.Goals as goal

pub returns : goal.returns
returns g c = sessions-are-placed g.K.Keeper.holds
