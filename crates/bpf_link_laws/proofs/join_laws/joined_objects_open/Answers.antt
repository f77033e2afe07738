use Rattle.bpf_link_laws.proofs.Linking.{joined_open}
use Rattle.bpf_link_laws.proofs.join_laws.joined_objects_open.Goals as goal

pub returns : goal.returns
returns c = joined_open
