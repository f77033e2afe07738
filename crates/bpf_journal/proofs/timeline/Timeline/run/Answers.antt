use Rattle.bpf_journal.proofs.Runs.{ends_state, ends_steps, run_history, run_stands}
use Rattle.bpf_journal.proofs.timeline.Timeline.run.Goals as goal

pub invariant_of-self : goal.invariant_of-self
invariant_of-self g c =
    run_history g.K.Keeper.holds (g.K.Keeper.room c.self.inside.keeper) c.run.result.steps c.self.inside.keeper c.run.new.self c.self.inside.cpu c.run.new.cpu
    (ends_state _ _ _ _ _ c.run.result.is_cut c.run.ensures.ends) (ends_steps _ _ _ _ _ c.run.result.is_cut c.run.ensures.ends) c.run.ensures.kept c.self.invariant

pub returns : goal.returns
returns g c = rw (← c.self.view_is) (record {
  ends = c.run.ensures.ends;
  kept =
      run_stands g.K.Keeper.holds (g.K.Keeper.room c.self.inside.keeper) c.run.result.steps c.self.inside.keeper c.run.new.self c.self.inside.cpu c.run.new.cpu
      (ends_state _ _ _ _ _ c.run.result.is_cut c.run.ensures.ends) (ends_steps _ _ _ _ _ c.run.result.is_cut c.run.ensures.ends) c.run.ensures.kept;
  refused = c.run.ensures.refused;
  room = c.run.ensures.room;
})
