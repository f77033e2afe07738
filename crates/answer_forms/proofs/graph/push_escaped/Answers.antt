use Rattle.std.proofs.Common.{arith}
use Rattle.answer_forms.specs.Graphs.{escaped}
use Rattle.answer_forms.proofs.Turns.{next-text}
use Rattle.answer_forms.proofs.graph.push_escaped.Goals as goal

pub loop-byte-preserved : goal.loop-byte-preserved
loop-byte-preserved c = next-text escaped c.args.text.now c.loop-byte.byte-index 0 _ _ _ (omega arith) c.in_ok-push_byte.ensures c.loop-byte.invariant
