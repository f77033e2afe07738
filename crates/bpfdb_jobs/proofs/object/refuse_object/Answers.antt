use Rattle.std.proofs.Common.{refl, subst, sym}
use Rattle.std.specs.Prelude.{Option, ℕ}
use Rattle.bpfdb_faults.specs.declared.refusal.JobRefusal.TheVariants.{Functions, Object}
use Rattle.bpfdb_jobs.specs.Refusals.{TellsFault}
use Rattle.bpfdb_jobs.proofs.object.refuse_object.Goals as goal

pub returns-in-None-clause-told : goal.returns-in-None-clause-told
returns-in-None-clause-told g c =
    let it = c.args.fault.now in
    let refusal = Object it.fault c.name-name.result in
    (refusal, subst (λ (i : Option ℕ). TellsFault i it refusal) (sym c.in-None.is) (refl, c.name-name.ensures), c.give_up.ensures.told)

pub returns-in-Some-clause-told : goal.returns-in-Some-clause-told
returns-in-Some-clause-told g c =
    let it = c.args.fault.now in
    let refusal = Functions it.fault c.in-Some.index c.name-name.result in
    (refusal, subst (λ (i : Option ℕ). TellsFault i it refusal) (sym c.in-Some.is) (refl, refl, c.name-name.ensures), c.give_up-in-Some.ensures.told)
