use Rattle.bpf_session.proofs.Undone.{commands-are-undone}
use Rattle.bpf_session.proofs.laws.commands_are_undone.Goals as goal

pub returns : goal.returns
returns c = commands-are-undone
