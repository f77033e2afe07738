use Rattle.bpfdb.proofs.Plans.{ends_file_with, ends_plan_with}
use Rattle.bpfdb.proofs.do_over.Goals as goal

pub returns-in-Some-clause-value : goal.returns-in-Some-clause-value
returns-in-Some-clause-value g c = λ other. ends_file_with _ _ _ _ _ _ _ c.do_for_file.ensures.does other

pub returns-in-None-clause-value : goal.returns-in-None-clause-value
returns-in-None-clause-value g c = λ other. ends_plan_with _ _ _ _ _ c.do_plan.ensures.does other
