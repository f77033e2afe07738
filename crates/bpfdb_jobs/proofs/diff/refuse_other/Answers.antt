use Rattle.std.proofs.Common.{refl, subst, sym}
use Rattle.bpfdb_faults.specs.declared.refusal.JobRefusal.TheVariants.{OtherObject, OtherRun}
use Rattle.bpfdb_jobs.specs.Refusals.{TellsOther}
use Rattle.bpfdb_jobs.specs.declared.diff.OtherFault.{OtherFault}
use Rattle.bpfdb_jobs.proofs.diff.refuse_other.Goals as goal

pub returns-in-Program-clause-told : goal.returns-in-Program-clause-told
returns-in-Program-clause-told g c =
    let refusal = OtherRun c.in-Program.why in
    (refusal, subst (λ (f : OtherFault). TellsOther f refusal) (sym c.in-Program.is) refl, c.give_up.ensures.told)

pub returns-in-Object-clause-told : goal.returns-in-Object-clause-told
returns-in-Object-clause-told g c =
    let it = c.in-Object.fault in
    let refusal = OtherObject it.fault c.name.result in
    (refusal, subst (λ (f : OtherFault). TellsOther f refusal) (sym c.in-Object.is) (refl, c.name.ensures), c.give_up-in-Object.ensures.told)
