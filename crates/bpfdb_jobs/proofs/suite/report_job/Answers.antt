use Rattle.std.proofs.Common.{refl}
use Rattle.bpfdb_jobs.specs.Suites.{Done, Undone}
use Rattle.bpfdb_jobs.proofs.suite.report_job.Goals as goal

pub returns-in-Ok-clause-does : goal.returns-in-Ok-clause-does
returns-in-Ok-clause-does g c = Done c.in-Ok.reported (rw c.in-Ok.is at c.report_on.ensures.reports) refl refl

pub returns-in-Err-clause-does : goal.returns-in-Err-clause-does
returns-in-Err-clause-does g c = Undone c.in-Err.why (rw c.in-Err.is at c.report_on.ensures.reports) c.give_up.ensures.told c.give_up.ensures.value
