use Rattle.std.proofs.Common.{◌∙◌, map, arith}
use Rattle.bpf_journal.specs.Again.{again_of}
use Rattle.bpf_journal.proofs.Repeating.{all_again, course_all, fewer_plain}
use Rattle.bpf_journal.proofs.course.Course.redo_steps.Goals as goal

pub invariant_of-self : goal.invariant_of-self
invariant_of-self g c =
    let i = c.self.invariant in
    let old = c.self.inside in
    let n = c.repeat-taken.result in
    course_all g.K.Keeper.holds g.K.Keeper.room n (record { state = old.timeline.state; keeper = old.timeline.keeper; redo = old.redo })
    (record { state = c.repeat-taken.new.self.state; keeper = c.repeat-taken.new.self.keeper; redo = c.drop_of.new.self })
    i.track.history i.track.ahead old.timeline.state
    (all_again g.K.Keeper.holds (g.K.Keeper.room old.timeline.keeper) n _ i.track.history i.track.ahead old.timeline.state c.repeat-taken.ensures.state
    (fewer_plain n c.newest_stretch-stretch.result.count (map again_of i.track.ahead) c.repeat-taken.ensures.within (c.newest_stretch-stretch.ensures.stretch _ i.follows.held).unmarked)
    i.follows.ahead (omega (arith, i.follows.within, i.size)) (c.drop_of.ensures.size ∙ i.size)
    (c.repeat-taken.ensures.kept i.track.history i.follows.history) (c.drop_of.ensures.held _ i.follows.held (c.newest_stretch-stretch.ensures.stretch _ i.follows.held)))
    c.drop_of.ensures.size c.repeat-taken.ensures.room i.size

pub returns-clause-made : goal.returns-clause-made
returns-clause-made g c = λ t follows.
    let i = c.self.invariant in
    let old = c.self.inside in
    let n = c.repeat-taken.result in
    let f = rw (← c.self.view_is) at follows in
    rw (← c.self.view_is)
    (all_again g.K.Keeper.holds (g.K.Keeper.room old.timeline.keeper) n _ t.history t.ahead old.timeline.state c.repeat-taken.ensures.state
    (fewer_plain n c.newest_stretch-stretch.result.count (map again_of t.ahead) c.repeat-taken.ensures.within (c.newest_stretch-stretch.ensures.stretch _ f.held).unmarked)
    f.ahead (omega (arith, f.within, i.size)) (c.drop_of.ensures.size ∙ i.size)
    (c.repeat-taken.ensures.kept t.history f.history) (c.drop_of.ensures.held _ f.held (c.newest_stretch-stretch.ensures.stretch _ f.held)))
