use Rattle.bpf_link_laws.proofs.Linking.{functions_stay}
use Rattle.bpf_link_laws.proofs.join_laws.functions_stay.Goals as goal

pub returns : goal.returns
returns c = functions_stay
