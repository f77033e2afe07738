use Rattle.std.proofs.Common.{ap, ◌∙◌}
use Rattle.bpf_journal.specs.Again.{seen_again}
use Rattle.bpf_journal.proofs.Courses.{course_left, goes_back, handed_fits}
use Rattle.bpf_journal.proofs.course.Course.back_by_entry.Goals as goal

pub push-requires : goal.push-requires
push-requires g c =
    let i = c.self.invariant in
    handed_fits g.K.Keeper.holds (record { state = c.self.inside.timeline.state; keeper = c.self.inside.timeline.keeper; redo = c.self.inside.redo }) (c.in-Some.entry, c.in-Some.mark)
    c.in-Some.ensures c.entries_fit.ensures _
    (c.entry_again-again.ensures.value ∙ ap (λ x. seen_again x c.in-Some.entry) c.cpu-in-Some.ensures) c.entry_again-again.ensures.fits i.track.history i.follows.history

pub invariant_of-self : goal.invariant_of-self
invariant_of-self g c =
    let i = c.self.invariant in
    course_left g.K.Keeper.holds g.K.Keeper.room _ (record { state = c.self.inside.timeline.state; keeper = c.self.inside.timeline.keeper; redo = c.self.inside.redo }) _ i.track.history i.track.ahead
    (goes_back g.K.Keeper.holds _ _ _ (c.in-Some.entry, c.in-Some.mark) c.in-Some.ensures c.back.ensures.back
    (rw (c.entry_again-again.ensures.value ∙ ap (λ x. seen_again x c.in-Some.entry) c.cpu-in-Some.ensures) at c.push.ensures.held)
    c.push.ensures.size i.track.history i.track.ahead i.follows)
    c.push.ensures.size c.back.ensures.room i.size

pub returns-in-Some-clause-back : goal.returns-in-Some-clause-back
returns-in-Some-clause-back g c = λ t follows.
    rw (← c.self.view_is) (goes_back g.K.Keeper.holds _ _ _ (c.in-Some.entry, c.in-Some.mark) c.in-Some.ensures c.back.ensures.back
    (rw (c.entry_again-again.ensures.value ∙ ap (λ x. seen_again x c.in-Some.entry) c.cpu-in-Some.ensures) at c.push.ensures.held)
    c.push.ensures.size t.history t.ahead (rw (← c.self.view_is) at follows))
