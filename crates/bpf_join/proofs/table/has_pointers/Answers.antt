use Rattle.bpf_join.proofs.Joining.{points_more}
use Rattle.bpf_join.proofs.table.has_pointers.Goals as goal

pub loop-i-preserved : goal.loop-i-preserved
loop-i-preserved c = points_more c.args.object.now c.loop-i.i _ _ _ _ c.either-found.ensures c.points.ensures c.section.ensures c.loop-i.invariant
