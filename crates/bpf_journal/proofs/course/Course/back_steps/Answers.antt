use Rattle.std.proofs.Common.{◌∙◌, map, sym}
use Rattle.bpf_journal.specs.Again.{again_of}
use Rattle.bpf_journal.proofs.GoingBack.{course_back, track_back}
use Rattle.bpf_journal.proofs.course.Course.back_steps.Goals as goal

pub invariant_of-self : goal.invariant_of-self
invariant_of-self g c =
    let i = c.self.invariant in
    let h = i.track.history in
    let f = i.track.ahead in
    let gone = c.hand_back_steps in
    course_back g.K.Keeper.holds c.args.marks.now c.args.stays g.K.Keeper.room _ gone.result h f c.self.inside.timeline.state
    (gone.ensures.ring_size ∙ i.size ∙ sym gone.ensures.stays.1)
    (track_back g.K.Keeper.holds c.args.marks.now c.args.stays _ _ _ (λ ms into. into i.follows.held) gone.ensures.ring_size gone.result h f c.self.inside.timeline.state
    i.follows.history.1 i.follows.ahead i.follows.within (gone.ensures.handed h (map again_of f) i.follows.history))

pub returns-clause-back : goal.returns-clause-back
returns-clause-back g c = λ t follows.
    let s = rw (← c.self.view_is) at follows in
    let gone = c.hand_back_steps in
    rw (← c.self.view_is) (track_back g.K.Keeper.holds c.args.marks.now c.args.stays _ _ _ (λ ms into. into s.held) gone.ensures.ring_size gone.result t.history t.ahead c.self.inside.timeline.state
    s.history.1 s.ahead s.within (gone.ensures.handed t.history (map again_of t.ahead) s.history))
