use Rattle.std.proofs.Common.{arith}
use Rattle.std.specs.BTreeMap.{get}
use Rattle.std.specs.Ordering.{nat_cmp}
use Rattle.answer_forms.proofs.Edging.{next-byte}
use Rattle.answer_forms.proofs.edges.push_line_edges.Goals as goal

pub loop-at-preserved : goal.loop-at-preserved
loop-at-preserved c =
    next-byte (get nat_cmp c.args.tellers.now) c.args.k c.args.text.now c.loop-at.at 0 _ _ _ (omega arith) c.in_ok-push_edges_behind.ensures c.loop-at.invariant
