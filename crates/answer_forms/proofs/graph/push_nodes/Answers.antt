use Rattle.std.proofs.Common.{arith}
use Rattle.answer_forms.proofs.Edging.{next-node}
use Rattle.answer_forms.proofs.graph.push_nodes.Goals as goal

pub loop-k-preserved : goal.loop-k-preserved
loop-k-preserved c = next-node c.args.lines.now c.loop-k.k _ _ _ _ (omega arith) c.in_ok-push_node.ensures c.loop-k.invariant
