use Rattle.bpf_session.proofs.CommandLaws.{replay-is-the-same}
use Rattle.bpf_session.proofs.laws.replay_is_the_same.Goals as goal

pub returns : goal.returns
returns c = replay-is-the-same
