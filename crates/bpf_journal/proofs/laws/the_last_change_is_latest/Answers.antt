use Rattle.bpf_journal.proofs.ByteChanges.{latest_change, no_change}
use Rattle.bpf_journal.proofs.laws.the_last_change_is_latest.Goals as goal

pub returns-clause-some : goal.returns-clause-some
returns-clause-some c = latest_change

pub returns-clause-none : goal.returns-clause-none
returns-clause-none c = no_change
