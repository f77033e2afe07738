use Rattle.std.proofs.Common.{◌≡◌, Bool, Some, true, false, refl}
use Rattle.bpf_ring.specs.Heads.{head_of}
use Rattle.std.specs.Prelude.{not}
use Rattle.bpf_journal.specs.Handing.{RingHolds}
use Rattle.bpf_journal.proofs.Handing.{next_is, next_left, told_newest}
use Rattle.bpf_journal.proofs.Courses.{course_again, makes_step, no_step_refused, none_again}
use Rattle.bpf_journal.proofs.course.Course.redo.Goals as goal

is_true : (b : Bool) → not b ≡ false → b ≡ true
is_true true is = refl
is_true false is = cc

pub invariant_of-self : goal.invariant_of-self
invariant_of-self g c =
    let i = c.self.invariant in
    course_again g.K.Keeper.holds g.K.Keeper.room (record { state = c.self.inside.timeline.state; keeper = c.self.inside.timeline.keeper; redo = c.self.inside.redo }) _ i.track.history i.track.ahead
    (makes_step g.K.Keeper.holds _ _ _ c.of_tag-next.result (is_true c.of_tag-next.result.is_step c.if-not-next.false)
    (next_left (RingHolds c.self.inside.redo) c.in-Some.head c.of_tag-next.result
    (told_newest (RingHolds c.self.inside.redo) (Some c.in-Some.head) head_of c.in-Some.ensures.none c.in-Some.ensures.some) c.of_tag-next.ensures (RingHolds c.drop_newest.new.self) (λ k es. c.drop_newest.ensures.held es k))
    c.in-Ok.ensures.ok i.size c.drop_newest.ensures.size i.track.history i.track.ahead i.follows)
    c.drop_newest.ensures.size c.in-Ok.ensures.room i.size

pub unreachable-requires : goal.unreachable-requires
unreachable-requires g c =
    let i = c.self.invariant in
    let fails = rw c.in-Err-Move.field-0-is at c.in-Err-Move.ensures.err in
    no_step_refused g.K.Keeper.holds (record { state = c.self.inside.timeline.state; keeper = c.self.inside.timeline.keeper; redo = c.self.inside.redo }) c.of_tag-next.result _ (is_true c.of_tag-next.result.is_step c.if-not-next.false)
    (next_is (RingHolds c.self.inside.redo) c.in-Some.head c.of_tag-next.result
    (told_newest (RingHolds c.self.inside.redo) (Some c.in-Some.head) head_of c.in-Some.ensures.none c.in-Some.ensures.some) c.of_tag-next.ensures) fails.0 i.track.history i.track.ahead i.follows

pub returns-in-Ok-clause-ok : goal.returns-in-Ok-clause-ok
returns-in-Ok-clause-ok g c = λ t follows.
    rw (← c.self.view_is) (makes_step g.K.Keeper.holds _ _ _ c.of_tag-next.result (is_true c.of_tag-next.result.is_step c.if-not-next.false)
    (next_left (RingHolds c.self.inside.redo) c.in-Some.head c.of_tag-next.result
    (told_newest (RingHolds c.self.inside.redo) (Some c.in-Some.head) head_of c.in-Some.ensures.none c.in-Some.ensures.some) c.of_tag-next.ensures (RingHolds c.drop_newest.new.self) (λ k es. c.drop_newest.ensures.held es k))
    c.in-Ok.ensures.ok c.self.invariant.size c.drop_newest.ensures.size t.history t.ahead (rw (← c.self.view_is) at follows))

pub returns-in_default-clause-ok : goal.returns-in_default-clause-ok
returns-in_default-clause-ok g c = λ t follows.
    rw (← c.self.view_is) (none_again g.K.Keeper.holds _ (λ ks k held. let is = c.in_default.ensures.some ks k held in absurd cc) t.history t.ahead (rw (← c.self.view_is) at follows))
