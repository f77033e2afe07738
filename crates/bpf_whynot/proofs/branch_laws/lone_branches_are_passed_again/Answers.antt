use Rattle.bpf_whynot.proofs.Turned.{lone_branches_are_passed_again as proved}
use Rattle.bpf_whynot.proofs.branch_laws.lone_branches_are_passed_again.Goals as goal

pub returns : goal.returns
returns c = proved
