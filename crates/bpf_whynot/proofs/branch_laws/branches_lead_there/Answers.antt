use Rattle.bpf_whynot.proofs.Turned.{branches_lead_there as proved}
use Rattle.bpf_whynot.proofs.branch_laws.branches_lead_there.Goals as goal

pub returns : goal.returns
returns c = proved
