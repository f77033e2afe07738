use Rattle.bpf_link_laws.proofs.Linking.{codes_joined}
use Rattle.bpf_link_laws.proofs.join_laws.codes_are_joined.Goals as goal

pub returns : goal.returns
returns c = codes_joined
