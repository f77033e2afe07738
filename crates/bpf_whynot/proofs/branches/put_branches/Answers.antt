use Rattle.std.proofs.Common.{arith, refl}
use Rattle.bpf_whynot.proofs.BranchGoing.{going_begins, going_cut, going_ends, going_on, same_course}
use Rattle.bpf_whynot.proofs.branches.put_branches.Goals as goal

pub loop-k-init : goal.loop-k-init
loop-k-init g c = (
  record { room = refl; refused = refl },
  λ t stands.
      going_begins g.K.Keeper.holds g.W.Write.contents c.args.question c.args.parts.now c.args.writer.now c.args.so_far t c.args.course.now.state _ _ c.args.course.now
      stands refl (rw c.cpu.ensures at c.in-Ok.ensures) (rw c.clear.ensures at c.want_parts-all.ensures.value),
)

pub loop-k-preserved : goal.loop-k-preserved
loop-k-preserved g c = (
  same_course g.K.Keeper.room g.K.Keeper.refused _ _ _ c.loop-k.invariant.0 c.take.ensures.keeper,
  λ t stands.
      let n = c.len-kept.ensures t stands in
      let here = c.loop-k-test.true in
      going_on g.K.Keeper.holds g.W.Write.contents c.args.question c.args.parts.now c.args.writer.now c.args.so_far t c.args.course.now.state c.loop-k.k c.loop-k.hunt c.in-On.next c.loop-k.wanted c.take.new.wanted
      c.loop-k.course c.take.new.course c.loop-k.writer c.take.new.writer (c.loop-k.invariant.1 t stands) (omega (arith, n, here))
      (λ r h f follows knows. rw c.in-On.is at (c.in-Ok-take.ensures.takes c.loop-k.k r h f refl follows knows)) c.take.ensures.back,
)

pub returns-in-Cut-clause-tells : goal.returns-in-Cut-clause-tells
returns-in-Cut-clause-tells g c = λ t stands.
    let n = c.len-kept.ensures t stands in
    let here = c.loop-k-test.true in
    going_cut g.K.Keeper.holds g.W.Write.contents c.args.question c.args.parts.now c.args.writer.now c.args.so_far t c.args.course.now.state c.loop-k.k c.loop-k.hunt c.loop-k.wanted c.take.new.wanted c.in-Cut.written
    c.loop-k.course c.take.new.course c.loop-k.writer c.take.new.writer _ c.args.course.now (c.loop-k.invariant.1 t stands) (omega (arith, n, here))
    (λ r h f follows knows. rw c.in-Cut.is at (c.in-Ok-take.ensures.takes c.loop-k.k r h f refl follows knows)) c.take.ensures.back refl refl

pub returns-in-Cut-clause-keeper : goal.returns-in-Cut-clause-keeper
returns-in-Cut-clause-keeper g c = same_course g.K.Keeper.room g.K.Keeper.refused _ _ _ c.loop-k.invariant.0 c.take.ensures.keeper

pub returns-clause-tells : goal.returns-clause-tells
returns-clause-tells g c = λ t stands.
    let n = c.len-kept.ensures t stands in
    let fin = c.loop-k-test.false in
    going_ends g.K.Keeper.holds g.W.Write.contents c.args.question c.args.parts.now c.args.writer.now c.args.so_far t c.args.course.now.state c.loop-k.k c.len-kept.result c.loop-k.hunt c.loop-k.wanted
    c.put_end-last.result c.loop-k.course c.loop-k.writer c.put_end-last.new.writer c.args.course.now (c.loop-k.invariant.1 t stands) (omega (arith, n, fin))
    c.put_end-last.ensures n refl

pub returns-clause-keeper : goal.returns-clause-keeper
returns-clause-keeper g c = c.loop-k.invariant.0
