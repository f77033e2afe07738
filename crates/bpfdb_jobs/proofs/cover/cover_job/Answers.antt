use Rattle.bpfdb_jobs.specs.Suites.{Behind, Uncovered}
use Rattle.bpfdb_jobs.proofs.cover.cover_job.Goals as goal

pub returns-in-Ok-clause-does : goal.returns-in-Ok-clause-does
returns-in-Ok-clause-does g c =
    Behind c.report_on.new.writer c.in-Ok.reported (rw c.in-Ok.is at c.report_on.ensures.reports) c.tell_cover.ensures.does

pub returns-in-Err-clause-does : goal.returns-in-Err-clause-does
returns-in-Err-clause-does g c = Uncovered c.in-Err.why (rw c.in-Err.is at c.report_on.ensures.reports) c.give_up.ensures.told c.give_up.ensures.value
