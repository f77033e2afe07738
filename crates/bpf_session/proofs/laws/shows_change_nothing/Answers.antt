use Rattle.bpf_session.proofs.CommandLaws.{shows-change-nothing}
use Rattle.bpf_session.proofs.laws.shows_change_nothing.Goals as goal

pub returns : goal.returns
returns c = shows-change-nothing
