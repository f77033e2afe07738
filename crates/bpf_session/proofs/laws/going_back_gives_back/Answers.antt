use Rattle.bpf_session.proofs.CommandLaws.{going-back-gives-back}
use Rattle.bpf_session.proofs.laws.going_back_gives_back.Goals as goal

pub returns : goal.returns
returns c = going-back-gives-back
