use Rattle.bpf_link.proofs.Followed.{law}
use Rattle.bpf_link.proofs.laws.reached_lead_to_reached.Goals as goal

pub returns : goal.returns
returns c = law
