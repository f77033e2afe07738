use Rattle.bpf_session.proofs.CommandLaws.{nothing-refused-nothing-missing}
use Rattle.bpf_session.proofs.WholeScripts.{nothing-refused-all-printed}
use Rattle.bpf_session.proofs.laws.nothing_refused_nothing_missing.Goals as goal

pub returns-clause-walk : goal.returns-clause-walk
returns-clause-walk c = nothing-refused-nothing-missing

pub returns-clause-run : goal.returns-clause-run
returns-clause-run c = nothing-refused-all-printed
