use Rattle.bpf_machine.specs.declared.moves.Move.TheVariants as move
use Rattle.bpf_journal.proofs.Courses.{course_new, makes_new}
use Rattle.bpf_journal.proofs.course.Course.edit.Goals as goal

pub invariant_of-self : goal.invariant_of-self
invariant_of-self g c =
    course_new g.K.Keeper.holds g.K.Keeper.room (record { state = c.self.inside.timeline.state; keeper = c.self.inside.timeline.keeper; redo = c.self.inside.redo }) _ (move.Edit c.args.edit.now) c.args.mark
    c.in-Ok.ensures.ok c.clear.ensures.size c.clear.ensures.empty c.in-Ok.ensures.room c.self.invariant

pub returns-in-Ok-clause-ok : goal.returns-in-Ok-clause-ok
returns-in-Ok-clause-ok g c =
    rw (← c.self.view_is) (makes_new g.K.Keeper.holds (g.K.Keeper.room c.self.inside.timeline.keeper) (record { state = c.self.inside.timeline.state; keeper = c.self.inside.timeline.keeper; redo = c.self.inside.redo }) _ (move.Edit c.args.edit.now) c.args.mark
    c.in-Ok.ensures.ok c.self.invariant.size c.clear.ensures.size c.clear.ensures.empty)
