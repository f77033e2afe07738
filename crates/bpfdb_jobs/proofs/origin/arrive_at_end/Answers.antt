use Rattle.std.proofs.Common.{◌∙◌, ap, refl}
use Rattle.bpfdb_jobs.specs.Jobs.{initial_of, unwritten_in}
use Rattle.bpfdb_jobs.specs.Origins.{steps_to}
use Rattle.bpfdb_jobs.proofs.Originating.{run-arrives}
use Rattle.bpfdb_jobs.proofs.Refusing.{machine-session, no-places, session-arrival}
use Rattle.bpfdb_jobs.proofs.Sourcing.{has-run}
use Rattle.bpfdb_jobs.proofs.origin.arrive_at_end.Goals as goal

pub returns-in-Err-clause-err : goal.returns-in-Err-clause-err
returns-in-Err-clause-err c = session-arrival c.args.job.now c.in-Err.refusal (machine-session c.args.job.now c.in-Err.refusal c.in-Err.ensures.err)

pub returns-in-Err-timeline_over-clause-err : goal.returns-in-Err-timeline_over-clause-err
returns-in-Err-timeline_over-clause-err c =
    session-arrival c.args.job.now c.in-Err-timeline_over.refusal (c.in-Err-timeline_over.ensures.err c.args.loaded.program c.in-Ok.ensures.ok.0)

pub returns-in-Err-wanted_of-clause-err : goal.returns-in-Err-wanted_of-clause-err
returns-in-Err-wanted_of-clause-err c =
    let o = (c.in-Ok-timeline_over.ensures.ok c.args.loaded.program c.in-Ok.ensures.ok.0).has_room in
    session-arrival c.args.job.now c.in-Err-wanted_of.refusal (no-places c.args.job.now c.in-Err-wanted_of.refusal o.short o.sized c.in-Err-wanted_of.ensures)

pub returns-in-Err-stop_line-clause-err : goal.returns-in-Err-stop_line-clause-err
returns-in-Err-stop_line-clause-err c =
    let o = (c.in-Ok-timeline_over.ensures.ok c.args.loaded.program c.in-Ok.ensures.ok.0).has_room in
    session-arrival c.args.job.now c.in-Err-stop_line.refusal (no-places c.args.job.now c.in-Err-stop_line.refusal o.short o.sized c.in-Err-stop_line.ensures.err)

pub run_for-moves-requires : goal.run_for-moves-requires
run_for-moves-requires c = c.in-Ok-timeline_over.ensures.runs c.args.loaded.program c.in-Ok.ensures.ok.0

pub returns-clause-ok : goal.returns-clause-ok
returns-clause-ok c =
    let job = c.args.job.now in
    let found = c.in-Ok.ensures.ok in
    let start = c.in-Ok-timeline_over.ensures.ok c.args.loaded.program found.0 in
    run-arrives c.args.is_strict c.args.known job c.args.loaded c.requires.loaded c.requires.known c.requires.script start.has_room.asked start.has_room.short _ refl
    (found.1 ∙ ap (unwritten_in c.args.is_strict c.args.known.own job) found.0.2) c.in-Ok-stop_line.ensures.ok
    (has-run job.options (steps_to c.in-Ok.strict.unwritten job.options.limit) (initial_of job c.args.loaded) c.in-Ok-timeline_over.timeline
    c.run_for-moves.new.timeline c.run_for-moves.result start.has_room.sized start.state start.empty start.room (rw c.steps_to.ensures at c.run_for-moves.ensures))
