use Rattle.std.proofs.Common.{refl}
use Rattle.bpfdb_jobs.specs.Objects.{Silent}
use Rattle.bpfdb_jobs.proofs.dispatch.places_in.Goals as goal

pub returns-in-Ok-clause-some : goal.returns-in-Ok-clause-some
returns-in-Ok-clause-some g c = (c.in-Ok.ensures.ok, Silent c.in-Ok.ensures.lines refl)
