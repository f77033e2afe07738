use Rattle.std.proofs.Common.{refl, subst, sym}
use Rattle.bpf_load.specs.declared.target.SourceKind.{SourceKind}
use Rattle.bpfdb_faults.specs.declared.refusal.JobRefusal.TheVariants.{Listing}
use Rattle.bpfdb_jobs.specs.Endings.{Refused}
use Rattle.bpfdb_jobs.specs.Jobs.{AreRows}
use Rattle.bpfdb_jobs.specs.Refusals.{RefusesRows}
use Rattle.bpfdb_jobs.proofs.Loading.{prints-rows}
use Rattle.bpfdb_jobs.proofs.load.tell_source.Goals as goal

pub returns-in-Err-clause-does : goal.returns-in-Err-clause-does
returns-in-Err-clause-does g c =
    let refusal = Listing c.in-Err.fault in
    Refused refusal (subst (λ (k : SourceKind). RefusesRows k c.args.job.now refusal) (sym c.in-Listing.is) c.in-Err.ensures.err) refl c.give_up.ensures.told
    c.give_up.ensures.value

pub tell_rows-requires : goal.tell_rows-requires
tell_rows-requires g c =
    let job = c.args.job.now in
    let loaded = c.args.loaded.now in
    let rows = c.as_slice.result.now in
    prints-rows job loaded rows c.requires.loaded
    (subst (λ (k : SourceKind). AreRows k job loaded.object rows) (sym c.in-Listing.is) (rw (sym c.as_slice.ensures.value) at c.in-Ok.ensures.ok))
