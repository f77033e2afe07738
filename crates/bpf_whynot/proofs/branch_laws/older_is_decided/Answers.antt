use Rattle.bpf_whynot.proofs.Deciding.{older_is_decided as decided, sure_goes_on}
use Rattle.bpf_whynot.proofs.branch_laws.older_is_decided.Goals as goal

pub returns : goal.returns
returns c = record { on = sure_goes_on; decided = decided }
