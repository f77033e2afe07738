use Rattle.bpf_whynot.proofs.Turned.{turned_branches_lead_elsewhere as proved}
use Rattle.bpf_whynot.proofs.branch_laws.turned_branches_lead_elsewhere.Goals as goal

pub returns : goal.returns
returns c = proved
