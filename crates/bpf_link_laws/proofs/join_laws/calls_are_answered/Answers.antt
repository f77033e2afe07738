use Rattle.bpf_link_laws.proofs.Linking.{calls_answered}
use Rattle.bpf_link_laws.proofs.join_laws.calls_are_answered.Goals as goal

pub returns : goal.returns
returns c = calls_answered
