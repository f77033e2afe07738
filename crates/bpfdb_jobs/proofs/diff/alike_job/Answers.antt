use Rattle.std.proofs.Common.{refl, sym}
use Rattle.bpfdb_faults.specs.declared.refusal.JobRefusal.TheVariants.{Object, OtherObject}
use Rattle.bpfdb_jobs.specs.Endings.{Exhausted, Refused}
use Rattle.bpfdb_jobs.specs.Jobs.{compared_print}
use Rattle.bpfdb_jobs.proofs.Diffing.{compared-prints, names-refused, opens-runs, others-refused}
use Rattle.bpfdb_jobs.proofs.diff.alike_job.Goals as goal

pub returns-in-Err-clause-does : goal.returns-in-Err-clause-does
returns-in-Err-clause-does g c =
    let told = c.refuse.ensures.told in
    let lacks = c.in-Err.ensures.err in
    Refused (Object c.in-Err.why told.0)
    (names-refused c.args.diff.now c.args.job.now c.args.other.now _ _ _ _ c.requires.runs.0 c.requires.runs.1 c.requires.opened.0 c.requires.opened.1 c.requires.maps
    c.in-Err.why told.0 lacks.0 (rw c.bytes_of.ensures at told.1, lacks.1)) refl told.2 c.refuse.ensures.value

pub returns-in-Err-names_for-clause-does : goal.returns-in-Err-names_for-clause-does
returns-in-Err-names_for-clause-does g c =
    let told = c.refuse_names.ensures.told in
    let lacks = c.in-Err-names_for.ensures.err in
    Refused (OtherObject c.in-Err-names_for.why told.0)
    (others-refused c.args.diff.now c.args.job.now c.args.other.now _ _ _ _ c.requires.runs.0 c.requires.runs.1 c.requires.opened.0 c.requires.opened.1 c.requires.maps
    c.in-Err-names_for.why told.0 lacks.0 (rw c.bytes_of-in-Err-names_for.ensures at told.1, lacks.1)) refl told.2 c.refuse_names.ensures.value

pub tell_runs-requires : goal.tell_runs-requires
tell_runs-requires g c = record {
  x = _;
  y = _;
  opens = opens-runs c.args.diff.now c.args.job.now c.args.other.now _ _ _ _ c.requires.runs.0 c.requires.runs.1 c.requires.opened.0 c.requires.opened.1 c.requires.maps _ _
      (rw (sym c.as_ref.ensures.value) at c.in-Ok.ensures.ok) (rw (sym c.as_ref-in-Ok-compare.ensures.value) at c.in-Ok-names_for.ensures.ok)
      (record { first = c.args.first.places; second = c.args.second.places }) c.requires.told.0 c.requires.told.1;
  are = c.in-Ok-compare.ensures;
}

pub returns-clause-does : goal.returns-clause-does
returns-clause-does g c =
    Exhausted (compared_print c.in-Ok.names c.in-Ok-names_for.names (record { first = c.args.first.places; second = c.args.second.places }) c.args.diff.now c.args.job.now c.args.other.now c.args.first.cpu c.args.second.cpu)
    (compared-prints c.args.diff.now c.args.job.now c.args.other.now _ _ c.in-Ok.names c.in-Ok-names_for.names (record { first = c.args.first.places; second = c.args.second.places })
    (opens-runs c.args.diff.now c.args.job.now c.args.other.now _ _ _ _ c.requires.runs.0 c.requires.runs.1 c.requires.opened.0 c.requires.opened.1 c.requires.maps _ _
    c.in-Ok.ensures.ok c.in-Ok-names_for.ensures.ok _ c.requires.told.0 c.requires.told.1))
    tt refl c.give_up.ensures.told c.give_up.ensures.value
