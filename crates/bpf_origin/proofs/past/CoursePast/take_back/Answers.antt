use Rattle.bpf_origin.proofs.Backs.{course_back, course_runs}
use Rattle.bpf_origin.proofs.past.CoursePast.take_back.Goals as goal

pub returns-clause-back : goal.returns-clause-back
returns-clause-back g c = λ t stands. course_back g.K.Keeper.holds _ t.history t.ahead _ _ (c.back.ensures.back t stands)

pub returns-clause-runs : goal.returns-clause-runs
returns-clause-runs g c =
    let i = c.invariant.ensures in
    course_runs g.K.Keeper.holds _ i.track.history i.track.ahead _ _ i.follows.history.1 (c.back.ensures.back i.track i.follows)

pub returns-clause-keeper : goal.returns-clause-keeper
returns-clause-keeper g c = record { room = c.back.ensures.room; refused = c.back.ensures.refused }
