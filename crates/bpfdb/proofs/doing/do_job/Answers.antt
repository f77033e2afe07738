use Rattle.std.proofs.Common.{◌∙◌, refl, sym}
use Rattle.bpfdb.specs.Done.{Fits, Misfits}
use Rattle.bpfdb.proofs.doing.do_job.Goals as goal

pub returns-in-Some-clause-does : goal.returns-in-Some-clause-does
returns-in-Some-clause-does g c = (
  c.job_of-job.result,
  c.job_of-job.ensures,
  Misfits c.in-Some.why (sym c.misfit_of.ensures ∙ c.in-Some.is) (refl, refl, c.give_up.ensures.told, c.give_up.ensures.value),
)

pub returns-in-None-clause-does : goal.returns-in-None-clause-does
returns-in-None-clause-does g c =
    (c.job_of-job.result, c.job_of-job.ensures, Fits (sym c.misfit_of.ensures ∙ c.in-None.is) c.noted_tool.ensures.does)
