use Rattle.std.proofs.Common.{refl}
use Rattle.bpf_journal.proofs.Courses.{course_left, steps_back}
use Rattle.bpf_journal.proofs.course.Course.back.Goals as goal

pub invariant_of-self : goal.invariant_of-self
invariant_of-self g c =
    let i = c.self.invariant in
    course_left g.K.Keeper.holds g.K.Keeper.room _ (record { state = c.self.inside.timeline.state; keeper = c.self.inside.timeline.keeper; redo = c.self.inside.redo }) _ i.track.history i.track.ahead
    (steps_back g.K.Keeper.holds _ _ _ _ refl c.in-Some.ensures.hands c.in-Some.ensures.back
    c.in-Some.ensures.ring_size i.track.history i.track.ahead i.follows)
    c.in-Some.ensures.ring_size c.in-Some.ensures.room i.size

pub returns-in-Some-clause-back : goal.returns-in-Some-clause-back
returns-in-Some-clause-back g c = λ t follows.
    rw (← c.self.view_is) (steps_back g.K.Keeper.holds _ _ _ _ refl c.in-Some.ensures.hands c.in-Some.ensures.back
    c.in-Some.ensures.ring_size t.history t.ahead (rw (← c.self.view_is) at follows))
