use Rattle.std.proofs.Common.{arith}
use Rattle.answer_forms.proofs.Turns.{next-spaced}
use Rattle.answer_forms.proofs.moves.push_spaced.Goals as goal

pub loop-at-preserved : goal.loop-at-preserved
loop-at-preserved c = next-spaced c.args.of_parts c.args.text.now c.loop-at.at 0 _ _ _ (omega arith) c.in_ok-push_next.ensures c.loop-at.invariant
