use Rattle.std.proofs.Common.{Some}
use Rattle.bpf_journal.specs.Handing.{RingHolds}
use Rattle.bpf_journal.proofs.Courses.{course_again, makes_again, none_again, none_refused}
use Rattle.bpf_journal.proofs.Handing.{newest_told, older_left}
use Rattle.bpf_journal.proofs.course.Course.redo_by_entry.Goals as goal

pub invariant_of-self : goal.invariant_of-self
invariant_of-self g c =
    let i = c.self.invariant in
    course_again g.K.Keeper.holds g.K.Keeper.room (record { state = c.self.inside.timeline.state; keeper = c.self.inside.timeline.keeper; redo = c.self.inside.redo }) _ i.track.history i.track.ahead
    (makes_again g.K.Keeper.holds _ _ _ (c.in-Some.entry, c.in-Some.mark) (λ es held. (
      newest_told (RingHolds c.self.inside.redo) (Some (c.in-Some.entry, c.in-Some.mark)) c.in-Some.ensures.none c.in-Some.ensures.some es held,
      older_left (RingHolds c.self.inside.redo) (RingHolds c.drop_last.new.self) c.drop_last.ensures.none c.drop_last.ensures.some es held,
    ))
    (rw c.move_again.ensures at c.in-Ok.ensures.ok) i.size c.drop_last.ensures.size i.track.history i.track.ahead i.follows)
    c.drop_last.ensures.size c.in-Ok.ensures.room i.size

pub unreachable-requires : goal.unreachable-requires
unreachable-requires g c =
    let i = c.self.invariant in
    let fails = rw c.in-Err-Move.field-0-is at c.in-Err-Move.ensures.err in
    none_refused g.K.Keeper.holds (record { state = c.self.inside.timeline.state; keeper = c.self.inside.timeline.keeper; redo = c.self.inside.redo }) (c.in-Some.entry, c.in-Some.mark) _
    (newest_told (RingHolds c.self.inside.redo) (Some (c.in-Some.entry, c.in-Some.mark)) c.in-Some.ensures.none c.in-Some.ensures.some) (rw c.move_again.ensures at fails.0) i.track.history i.track.ahead i.follows

pub returns-in-Ok-clause-ok : goal.returns-in-Ok-clause-ok
returns-in-Ok-clause-ok g c = λ t follows.
    rw (← c.self.view_is) (makes_again g.K.Keeper.holds _ _ _ (c.in-Some.entry, c.in-Some.mark) (λ es held. (
      newest_told (RingHolds c.self.inside.redo) (Some (c.in-Some.entry, c.in-Some.mark)) c.in-Some.ensures.none c.in-Some.ensures.some es held,
      older_left (RingHolds c.self.inside.redo) (RingHolds c.drop_last.new.self) c.drop_last.ensures.none c.drop_last.ensures.some es held,
    ))
    (rw c.move_again.ensures at c.in-Ok.ensures.ok) c.self.invariant.size c.drop_last.ensures.size t.history t.ahead (rw (← c.self.view_is) at follows))

pub returns-in_default-clause-ok : goal.returns-in_default-clause-ok
returns-in_default-clause-ok g c = λ t follows.
    rw (← c.self.view_is) (none_again g.K.Keeper.holds _ (λ ks k held. let is = c.in_default.ensures.some ks k held in absurd cc) t.history t.ahead (rw (← c.self.view_is) at follows))
