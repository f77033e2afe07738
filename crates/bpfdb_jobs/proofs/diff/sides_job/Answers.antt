use Rattle.std.proofs.Common.{refl}
use Rattle.bpfdb_faults.specs.declared.refusal.JobRefusal.TheVariants.{OtherMap}
use Rattle.bpfdb_jobs.specs.Endings.{Refused}
use Rattle.bpfdb_jobs.proofs.Diffing.{maps-refused}
use Rattle.bpfdb_jobs.proofs.diff.sides_job.Goals as goal

pub returns-in-Some-clause-does : goal.returns-in-Some-clause-does
returns-in-Some-clause-does g c =
    let is = c.in-Some.ensures.some in
    Refused (OtherMap c.in-Some.number)
    (maps-refused c.args.diff.now c.args.job.now c.args.other.now _ _ _ _ c.requires.runs.0 c.requires.runs.1 c.requires.first c.requires.second c.in-Some.number is)
    refl c.give_up.ensures.told c.give_up.ensures.value
