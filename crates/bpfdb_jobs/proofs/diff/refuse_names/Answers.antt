use Rattle.std.proofs.Common.{◌∙◌}
use Rattle.bpfdb_jobs.proofs.diff.refuse_names.Goals as goal

pub returns-clause-told : goal.returns-clause-told
returns-clause-told g c = (c.as_slice-name.result, c.as_slice-name.ensures.value ∙ c.fault_names-names.ensures, c.give_up.ensures.told)
