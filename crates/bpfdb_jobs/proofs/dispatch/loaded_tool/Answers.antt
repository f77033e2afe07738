-- FILE isn't loaded, or nothing is known of its lines; or the job is done.
use Rattle.std.proofs.Common.{◌∙◌, inl, inr, refl, sym}
use Rattle.bpfdb_jobs.specs.Done.{DoesLoaded, Unloaded}
use Rattle.bpfdb_jobs.proofs.Tables.{object-links, object-of}
use Rattle.bpfdb_jobs.proofs.dispatch.loaded_tool.Goals as goal

pub returns-in_default-clause-does : goal.returns-in_default-clause-does
returns-in_default-clause-does g c =
    let why = c.in_default.ensures.none in
    Unloaded c.requires.checks why.0 (inl why.1) (refl, refl, why.2, refl)

pub returns-in-None-clause-does : goal.returns-in-None-clause-does
returns-in-None-clause-does g c =
    let job = c.args.job.now in
    let loaded = c.in-Some.loaded in
    let some = c.in-Some.ensures.some in
    let why = c.in-None.ensures.none in
    Unloaded c.requires.checks why.2
    (inr (
      record {
        linked = why.0;
        links = object-links job loaded.object why.0 (object-of job loaded some.0) (sym c.as_ref.ensures.value ∙ why.3);
        it = why.1;
        lacks = why.5;
        tells = why.6;
      },
      why.4,
    )) (refl, refl, rw some.1 at why.7, refl)

pub program_tool-requires-clause-known : goal.program_tool-requires-clause-known
program_tool-requires-clause-known g c =
    let are = rw c.as_ref.ensures.value at c.in-Some-places_told.ensures.some.0 in
    record {
      goals = rw c.known.ensures.goals are.goals;
      places = rw c.known.ensures.places are.texts;
      own = rw (c.known.ensures.places, c.known.ensures.own) are.own;
      code = rw (c.known.ensures.names, c.known.ensures.first, c.known.ensures.behind) are.functions;
    }

pub returns-clause-does : goal.returns-clause-does
returns-clause-does g c =
    let some = c.in-Some.ensures.some in
    DoesLoaded c.requires.checks c.in-Some.loaded some.0 c.places_told.new.errors
    (rw (c.as_ref.ensures.value, some.1) at c.in-Some-places_told.ensures.some.1) c.program_tool.ensures.does
