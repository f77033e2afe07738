use Rattle.std.proofs.Common.{◌∙◌, arith}
use Rattle.input_texts.proofs.Folders.{folder_of-step, folder_of-stop, folder_of-empty}
use Rattle.input_texts.proofs.path.folder_of.Goals as goal
use Rattle.input_texts.proofs.path.folder_of.Goals.{then-loop-end-test+else-is_part, else-loop-end-test}

pub loop-end-preserved : goal.loop-end-preserved
loop-end-preserved c = (
  omega arith,
  folder_of-step c.args.path.now c.loop-end.end c.loop-end-test.true c.loop-end.invariant.0 c.if-is_part.ensures
      ∙ c.loop-end.invariant.1,
)

pub returns : goal.returns
returns c = elim c.loop-end-test.branch [
  | then-loop-end-test+else-is_part w ↦
      folder_of-stop c.args.path.now c.loop-end.end w.loop-end-test.true c.loop-end.invariant.0 w.if-is_part.ensures
      ∙ c.loop-end.invariant.1
  | else-loop-end-test w ↦ folder_of-empty c.args.path.now c.loop-end.end w.loop-end-test.false ∙ c.loop-end.invariant.1
]
