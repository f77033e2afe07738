use Rattle.std.proofs.Common.{arith}
use Rattle.answer_forms.proofs.Cuts.{cut-here, cut-later}
use Rattle.answer_forms.proofs.cut.cut_at.Goals as goal

pub returns-in-Some : goal.returns-in-Some
returns-in-Some c = cut-here c.args.words.now c.args.text.now c.in-Some.rest.now c.loop-at.at (omega arith) c.in-Some.ensures c.loop-at.invariant

pub loop-at-preserved : goal.loop-at-preserved
loop-at-preserved c = cut-later c.args.words.now c.args.text.now c.loop-at.at (omega arith) c.in_default.ensures c.loop-at.invariant
