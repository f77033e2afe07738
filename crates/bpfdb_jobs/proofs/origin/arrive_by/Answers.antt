use Rattle.std.proofs.Common.{◌∙◌, ap, refl}
use Rattle.bpf_ring.specs.declared.keeper.RingKeeper.{RingKeeper}
use Rattle.bpf_steps.specs.State.{State}
use Rattle.bpfdb_jobs.proofs.Originating.{script-arrives, script-refuses}
use Rattle.bpfdb_jobs.proofs.Refusing.{no-places, session-arrival}
use Rattle.bpfdb_jobs.proofs.origin.arrive_by.Goals as goal

pub returns-in-Err-clause-err : goal.returns-in-Err-clause-err
returns-in-Err-clause-err c = session-arrival c.args.job.now c.in-Err.refusal c.in-Err.ensures.err

pub returns-in-Err-wanted_of-clause-err : goal.returns-in-Err-wanted_of-clause-err
returns-in-Err-wanted_of-clause-err c =
    let o = c.in-Ok.ensures.ok in
    session-arrival c.args.job.now c.in-Err-wanted_of.refusal (no-places c.args.job.now c.in-Err-wanted_of.refusal o.room.short o.room.sized c.in-Err-wanted_of.ensures)

pub returns-in-Err-obey_script-clause-err : goal.returns-in-Err-obey_script-clause-err
returns-in-Err-obey_script-clause-err c =
    script-refuses c.args.job.now c.args.loaded c.requires.loaded c.args.script c.requires.script c.in-Ok.session c.obey_script.new.session c.in-Ok.ensures.ok
    c.in-Err-obey_script.refusal c.in-Err-obey_script.ensures

pub returns-clause-ok : goal.returns-clause-ok
returns-clause-ok c = λ strict known is_known.
    script-arrives c.args.job.now c.args.loaded c.requires.loaded c.args.script c.requires.script c.in-Ok.session c.obey_script.new.session c.in-Ok.ensures.ok
    strict known is_known _ refl refl c.new.ensures.items
    (c.open.ensures.state ∙ ap (λ (pair : State × RingKeeper). pair.0) c.close-cpu.ensures.same)
    (c.open.ensures.keeper ∙ ap (λ (pair : State × RingKeeper). pair.1) c.close-cpu.ensures.same)
    c.in-Ok-obey_script.ensures
