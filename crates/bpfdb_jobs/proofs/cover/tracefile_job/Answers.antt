use Rattle.std.proofs.Common.{refl}
use Rattle.bpfdb_jobs.specs.Suites.{Beside, Untraced}
use Rattle.bpfdb_jobs.proofs.cover.tracefile_job.Goals as goal

pub returns-in-Ok-clause-does : goal.returns-in-Ok-clause-does
returns-in-Ok-clause-does g c =
    Beside c.as_bytes.result c.report_on.new.writer c.in-Ok.reported c.as_bytes.ensures.value (rw c.in-Ok.is at c.report_on.ensures.reports)
    c.tell_cover.ensures.does

pub returns-in-Err-clause-does : goal.returns-in-Err-clause-does
returns-in-Err-clause-does g c =
    Untraced c.in-Err.why c.report_on.new.writer (rw c.in-Err.is at c.report_on.ensures.reports) c.give_up.ensures.told refl c.give_up.ensures.value
