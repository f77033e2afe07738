use Rattle.std.proofs.Common.{refl, subst, sym}
use Rattle.bpfdb_jobs.specs.Endings.{Refused}
use Rattle.bpfdb_jobs.specs.Refusals.{RefusesLink}
use Rattle.bpfdb_jobs.proofs.object.link_job.Goals as goal

pub returns-then-is_joined-clause-does : goal.returns-then-is_joined-clause-does
returns-then-is_joined-clause-does g c = rw c.if-is_joined.true c.put_object.ensures.does

pub returns-in-Ok-clause-does : goal.returns-in-Ok-clause-does
returns-in-Ok-clause-does g c = rw c.if-is_joined.false c.put_program.ensures.does

pub returns-in-Err-clause-does : goal.returns-in-Err-clause-does
returns-in-Err-clause-does g c =
    let told = c.refuse_object.ensures.told in
    Refused told.0 (subst (λ b. RefusesLink b c.args.job.now told.0) (sym c.if-is_joined.false) (c.in-Err.fault, c.in-Err.ensures.err, told.1)) refl told.2
    c.refuse_object.ensures.value
