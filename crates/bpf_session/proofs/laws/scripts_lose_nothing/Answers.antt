use Rattle.bpf_session.proofs.RedoLaws.{scripts-lose-nothing}
use Rattle.bpf_session.proofs.laws.scripts_lose_nothing.Goals as goal

pub returns : goal.returns
returns c = scripts-lose-nothing
