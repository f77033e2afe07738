use Rattle.std.proofs.Common.{refl}
use Rattle.bpfdb_jobs.specs.Endings.{Refused}
use Rattle.bpfdb_jobs.proofs.Tables.{refuses-linking}
use Rattle.bpfdb_jobs.proofs.object_lines.object_lines_job.Goals as goal

pub returns-in-Err-clause-does : goal.returns-in-Err-clause-does
returns-in-Err-clause-does g c =
    let told = c.refuse_object.ensures.told in
    Refused told.0 (refuses-linking c.args.job.now told.0 c.requires (c.in-Err.fault, c.in-Err.ensures.err, told.1)) refl told.2
    c.refuse_object.ensures.value
