use Rattle.bpf_journal.proofs.Courses.{course_open, follows_open}
use Rattle.bpf_journal.proofs.course.Course.open.Goals as goal

pub invariant_of-result : goal.invariant_of-result
invariant_of-result g c =
    course_open g.K.Keeper.holds (record { state = c.open.result.state; keeper = c.open.result.keeper; redo = c.args.redo }) c.requires.empty g.K.Keeper.room (rw c.open.ensures.keeper c.invariant.ensures)
    (rw c.open.ensures.keeper c.requires.size) (rw (c.open.ensures.state, c.open.ensures.keeper) c.requires.past)

pub returns-clause-stands : goal.returns-clause-stands
returns-clause-stands g c = λ h stands.
    follows_open g.K.Keeper.holds (record { state = c.open.result.state; keeper = c.open.result.keeper; redo = c.args.redo }) c.requires.empty g.K.Keeper.room (rw c.open.ensures.keeper c.invariant.ensures)
    (rw c.open.ensures.keeper c.requires.size) h (rw (c.open.ensures.state, c.open.ensures.keeper) stands)
