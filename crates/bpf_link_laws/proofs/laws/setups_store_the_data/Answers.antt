use Rattle.bpf_link_laws.proofs.Setups.{law}
use Rattle.bpf_link_laws.proofs.laws.setups_store_the_data.Goals as goal

pub returns : goal.returns
returns c = law
