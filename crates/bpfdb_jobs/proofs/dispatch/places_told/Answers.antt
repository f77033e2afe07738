use Rattle.std.proofs.Common.{◌≡◌, true, Option, Some, None, refl}
use Rattle.std.specs.Prelude.{IfNone}
use Rattle.bpf_load.specs.declared.fault.ObjectFault.{ObjectFault}
use Rattle.bpf_load.specs.declared.loading.LinkedObject.{LinkedObject}
use Rattle.bpfdb_faults.specs.Faults.{line_of}
use Rattle.bpfdb_faults.specs.Streams.{Stream, Told, stream}
use Rattle.bpfdb_faults.specs.declared.fault.JobFault.TheVariants.{Refused}
use Rattle.bpfdb_faults.specs.declared.refusal.JobRefusal.{JobRefusal}
use Rattle.bpfdb_jobs.specs.Objects.{Silent, insists}
use Rattle.bpfdb_jobs.specs.Refusals.{LacksPlaces, TellsFault}
use Rattle.bpfdb_jobs.specs.declared.job.Job.{Job}
use Rattle.bpfdb_jobs.specs.declared.known.Places.{Places}
use Rattle.bpfdb_jobs.proofs.Knowing.{none-known}
use Rattle.bpfdb_jobs.proofs.dispatch.places_told.Goals as goal

pub returns-in-None-clause-some : goal.returns-in-None-clause-some
returns-in-None-clause-some g c =
    rw c.in-None.is (none-known c.args.job.now c.nowhere.result c.nowhere.ensures.texts c.nowhere.ensures.own c.nowhere.ensures.goals c.nowhere.ensures.functions, Silent tt refl)

-- why nothing is known of an object's slots
refused : {E : Type 0} (job : Job) (linked : LinkedObject) (errors : Stream E) (r : Option Places)
    → IfNone r ((it : ObjectFault) × (refusal : JobRefusal) × (insists job it.fault ≡ true) × LacksPlaces job linked it
    × TellsFault it.index it refusal × Told errors (line_of (Refused refusal)))
    → IfNone r ((one : LinkedObject) × (it : ObjectFault) × (refusal : JobRefusal) × (Some linked ≡ Some one) × (insists job it.fault ≡ true)
    × LacksPlaces job one it × TellsFault it.index it refusal × Told errors (line_of (Refused refusal)))
refused job linked errors None n = (linked, n.0, n.1, refl, n.2, n.3, n.4, n.5)
refused job linked errors (Some places) n = n

pub returns-in-Some-clause-some : goal.returns-in-Some-clause-some
returns-in-Some-clause-some g c = rw c.in-Some.is c.places_in.ensures.some

pub returns-in-Some-clause-none : goal.returns-in-Some-clause-none
returns-in-Some-clause-none g c =
    rw c.in-Some.is
    (refused c.args.job.now c.in-Some.object.now (stream g.E.Write.contents c.args.errors.now c.places_in.new.errors) c.places_in.result c.places_in.ensures.none)
