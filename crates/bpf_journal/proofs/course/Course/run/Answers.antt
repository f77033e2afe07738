use Rattle.std.proofs.Common.{arith}
use Rattle.bpf_journal.proofs.Runs.{ends_state, run_course, run_follows}
use Rattle.bpf_journal.proofs.course.Course.run.Goals as goal

pub invariant_of-self-2 : goal.invariant_of-self-2
invariant_of-self-2 g c =
    let old = c.self.inside in
    run_course g.K.Keeper.holds g.K.Keeper.room c.run-run.result.steps (record { state = old.timeline.state; keeper = old.timeline.keeper; redo = old.redo })
    (record { state = c.run-run.new.self.state; keeper = c.run-run.new.self.keeper; redo = c.clear.new.self })
    c.run-run.ensures.kept (ends_state _ _ _ _ _ c.run-run.result.is_cut c.run-run.ensures.ends) c.clear.ensures.size (λ some. c.clear.ensures.empty)
    (λ none. absurd (omega (arith, none, c.if-run-eq0.false))) c.run-run.ensures.room c.self.invariant

pub returns : goal.returns
returns g c =
    let old = c.self.inside in
    rw (← c.self.view_is) (record {
      ends = c.run-run.ensures.ends;
      kept = run_follows g.K.Keeper.holds (g.K.Keeper.room old.timeline.keeper) c.run-run.result.steps (record { state = old.timeline.state; keeper = old.timeline.keeper; redo = old.redo })
          (record { state = c.run-run.new.self.state; keeper = c.run-run.new.self.keeper; redo = c.clear.new.self })
          c.run-run.ensures.kept (ends_state _ _ _ _ _ c.run-run.result.is_cut c.run-run.ensures.ends) c.self.invariant.size c.clear.ensures.size (λ some. c.clear.ensures.empty)
          (λ none. absurd (omega (arith, none, c.if-run-eq0.false)));
      refused = c.run-run.ensures.refused;
      room = c.run-run.ensures.room;
    })
