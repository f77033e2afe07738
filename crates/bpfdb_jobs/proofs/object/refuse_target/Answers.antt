use Rattle.std.proofs.Common.{refl, subst, sym}
use Rattle.bpf_load.specs.declared.fault.TargetFault.{TargetFault}
use Rattle.bpfdb_faults.specs.declared.refusal.JobRefusal.TheVariants.{Listing, Load, Maps}
use Rattle.bpfdb_jobs.specs.Refusals.{TellsTarget}
use Rattle.bpfdb_jobs.proofs.object.refuse_target.Goals as goal

pub returns-in-Maps-clause-told : goal.returns-in-Maps-clause-told
returns-in-Maps-clause-told g c =
    let refusal = Maps c.in-Maps.fault in
    (refusal, subst (λ (f : TargetFault). TellsTarget f refusal) (sym c.in-Maps.is) refl, c.give_up.ensures.told)

pub returns-in-Listing-clause-told : goal.returns-in-Listing-clause-told
returns-in-Listing-clause-told g c =
    let refusal = Listing c.in-Listing.fault in
    (refusal, subst (λ (f : TargetFault). TellsTarget f refusal) (sym c.in-Listing.is) refl, c.give_up-in-Listing.ensures.told)

pub returns-in-Program-clause-told : goal.returns-in-Program-clause-told
returns-in-Program-clause-told g c =
    let refusal = Load c.in-Program.fault in
    (refusal, subst (λ (f : TargetFault). TellsTarget f refusal) (sym c.in-Program.is) refl, c.give_up-in-Program.ensures.told)
