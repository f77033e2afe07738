use Rattle.bpf_journal.proofs.Repeating.{on_history, on_stands}
use Rattle.bpf_journal.proofs.timeline.Timeline.repeat.Goals as goal

pub invariant_of-self : goal.invariant_of-self
invariant_of-self g c =
    on_history g.K.Keeper.holds (g.K.Keeper.room c.self.inside.keeper) c.repeat.result c.self.inside.keeper c.repeat.new.self c.self.inside.cpu c.repeat.new.cpu
    c.repeat.ensures.state c.repeat.ensures.steps c.repeat.ensures.kept c.self.invariant

pub returns : goal.returns
returns g c = rw (← c.self.view_is) (record {
  state = c.repeat.ensures.state;
  steps = c.repeat.ensures.steps;
  within = c.repeat.ensures.within;
  kept =
      on_stands g.K.Keeper.holds (g.K.Keeper.room c.self.inside.keeper) c.repeat.result c.self.inside.keeper c.repeat.new.self c.self.inside.cpu c.repeat.new.cpu
      c.repeat.ensures.state c.repeat.ensures.steps c.repeat.ensures.kept;
  refused = c.repeat.ensures.refused;
  room = c.repeat.ensures.room;
})
