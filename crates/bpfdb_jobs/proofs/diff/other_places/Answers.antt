use Rattle.std.proofs.Common.{◌≡◌, true, Result, Some, Ok, Err, refl}
use Rattle.std.specs.Prelude.{IfErr}
use Rattle.bpf_load.specs.declared.fault.ObjectFault.{ObjectFault}
use Rattle.bpf_load.specs.declared.loading.LinkedObject.{LinkedObject}
use Rattle.bpfdb_jobs.specs.Jobs.{is_memory, tells_places}
use Rattle.bpfdb_jobs.specs.Refusals.{LacksPlaces}
use Rattle.bpfdb_jobs.specs.declared.job.Job.{Job}
use Rattle.bpfdb_jobs.specs.declared.known.Places.{Places}
use Rattle.bpfdb_jobs.proofs.Knowing.{no-places-told}
use Rattle.bpfdb_jobs.proofs.diff.other_places.Goals as goal

pub returns-in-None-clause-ok : goal.returns-in-None-clause-ok
returns-in-None-clause-ok c = rw (c.in-None.is, c.nowhere.ensures.texts) (no-places-told c.args.other.now (tells_places c.args.other.now.ask))

-- memory runs out for an object's lines
lacks : (other : Job) (linked : LinkedObject) (r : Result Places ObjectFault)
    → IfErr r (λ it. LacksPlaces other linked it × (is_memory it.fault ≡ true))
    → IfErr r (λ it. (one : LinkedObject) × (Some linked ≡ Some one) × LacksPlaces other one it × (is_memory it.fault ≡ true))
lacks other linked (Ok v) l = l
lacks other linked (Err it) l = (linked, refl, l.0, l.1)

pub returns-in-Some-clause-err : goal.returns-in-Some-clause-err
returns-in-Some-clause-err c = rw c.in-Some.is (lacks c.args.other.now c.in-Some.object.now c.places_in.result c.places_in.ensures.err)
