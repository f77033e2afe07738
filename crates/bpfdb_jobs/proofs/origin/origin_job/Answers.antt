use Rattle.std.proofs.Common.{refl}
use Rattle.bpfdb_jobs.specs.Endings.{Refused}
use Rattle.bpfdb_jobs.proofs.Refusing.{arrival-origin}
use Rattle.bpfdb_jobs.proofs.origin.origin_job.Goals as goal

pub returns-in-Err-clause-does : goal.returns-in-Err-clause-does
returns-in-Err-clause-does g c = Refused c.in-Err.refusal (arrival-origin c.args.origin.now c.args.job.now c.in-Err.refusal c.in-Err.ensures.err) refl c.give_up.ensures.told c.give_up.ensures.value
