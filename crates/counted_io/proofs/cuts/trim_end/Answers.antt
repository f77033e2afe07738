-- A blank at the end is dropped, and at another byte the end is found.
use Rattle.std.proofs.Common.{◌∙◌, arith}
use Rattle.counted_io.proofs.Cutting.{trim_end-step, trim_end-stop, trim_end-empty}
use Rattle.counted_io.proofs.cuts.trim_end.Goals as goal
use Rattle.counted_io.proofs.cuts.trim_end.Goals.{then-loop-end-test+else-is_blank, else-loop-end-test}

pub loop-end-preserved : goal.loop-end-preserved
loop-end-preserved c = (
  omega arith,
  trim_end-step c.args.text.now c.loop-end.end c.loop-end-test.true c.loop-end.invariant.0 c.if-is_blank.ensures
      ∙ c.loop-end.invariant.1,
)

pub returns : goal.returns
returns c = elim c.loop-end-test.branch [
  | then-loop-end-test+else-is_blank w ↦
      trim_end-stop c.args.text.now c.loop-end.end w.loop-end-test.true c.loop-end.invariant.0 w.if-is_blank.ensures
      ∙ c.loop-end.invariant.1
  | else-loop-end-test w ↦ trim_end-empty c.args.text.now c.loop-end.end w.loop-end-test.false ∙ c.loop-end.invariant.1
]
