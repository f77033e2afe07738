use Rattle.bpf_whynot.proofs.Turned.{kept_is_not_written as proved}
use Rattle.bpf_whynot.proofs.branch_laws.kept_is_not_written.Goals as goal

pub returns : goal.returns
returns c = proved
