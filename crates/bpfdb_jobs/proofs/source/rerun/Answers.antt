use Rattle.std.proofs.Common.{◌∙◌}
use Rattle.bpfdb_jobs.proofs.Sourcing.{has-run}
use Rattle.bpfdb_jobs.proofs.source.rerun.Goals as goal

pub returns-clause-ok : goal.returns-clause-ok
returns-clause-ok c =
    let start = c.start-timeline.ensures in
    has-run c.args.job.now.options c.args.steps _ c.start-timeline.result c.run_for-moves.new.timeline c.run_for-moves.result c.in-Ok.ensures.size
    (start.state ∙ c.in-Ok-open_again.ensures.ok.1) (rw start.keeper c.in-Ok.ensures.empty) (rw start.keeper c.in-Ok.ensures.room) c.run_for-moves.ensures
