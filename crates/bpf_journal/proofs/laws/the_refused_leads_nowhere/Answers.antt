use Rattle.bpf_journal.proofs.MoveLaws.{nowhere}
use Rattle.bpf_journal.proofs.laws.the_refused_leads_nowhere.Goals as goal

pub returns : goal.returns
returns c = nowhere
