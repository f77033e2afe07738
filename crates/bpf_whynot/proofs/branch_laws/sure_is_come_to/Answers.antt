use Rattle.bpf_whynot.proofs.Turned.{sure_is_come_to as proved}
use Rattle.bpf_whynot.proofs.branch_laws.sure_is_come_to.Goals as goal

pub returns : goal.returns
returns c = proved
