use Rattle.bpf_journal.proofs.MoveLaws.{one_after, one_before, replay}
use Rattle.bpf_journal.proofs.laws.moves_go_one_way_and_back.Goals as goal

pub returns-clause-after : goal.returns-clause-after
returns-clause-after c = one_after

pub returns-clause-before : goal.returns-clause-before
returns-clause-before c = one_before

pub returns-clause-replay : goal.returns-clause-replay
returns-clause-replay c = replay
