use Rattle.bpf_machine.specs.declared.moves.Move.TheVariants as move
use Rattle.bpf_journal.proofs.Courses.{course_new, makes_new}
use Rattle.bpf_journal.proofs.course.Course.step.Goals as goal

pub invariant_of-self : goal.invariant_of-self
invariant_of-self g c =
    course_new g.K.Keeper.holds g.K.Keeper.room (record { state = c.self.inside.timeline.state; keeper = c.self.inside.timeline.keeper; redo = c.self.inside.redo }) _ move.Step c.args.mark
    c.in-Ok.ensures.ok c.clear.ensures.size c.clear.ensures.empty c.in-Ok.ensures.room c.self.invariant

pub returns-in-Ok : goal.returns-in-Ok
returns-in-Ok g c =
    rw (← c.self.view_is) (record {
      ok = makes_new g.K.Keeper.holds (g.K.Keeper.room c.self.inside.timeline.keeper) (record { state = c.self.inside.timeline.state; keeper = c.self.inside.timeline.keeper; redo = c.self.inside.redo }) _ move.Step c.args.mark
          c.in-Ok.ensures.ok c.self.invariant.size c.clear.ensures.size c.clear.ensures.empty;
      err = tt;
      bytes = c.in-Ok.ensures.bytes;
      refused = c.in-Ok.ensures.refused;
      room = c.in-Ok.ensures.room;
    })
