use Rattle.bpf_session.proofs.WholeScripts.{keepers-answer-alike}
use Rattle.bpf_session.proofs.laws.keepers_answer_alike.Goals as goal

pub returns : goal.returns
returns g c = keepers-answer-alike g.K.Keeper.holds g.K.Keeper.refused g.K.Keeper.room g.L.Keeper.holds g.L.Keeper.refused g.L.Keeper.room
