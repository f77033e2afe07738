-- A space at the end is dropped, and at another byte the end is found.
use Rattle.std.proofs.Common.{◌∙◌, arith}
use Rattle.bpf_suite.proofs.Trimming.{trim_end-step, trim_end-stop, trim_end-empty}
use Rattle.bpf_suite.proofs.body.trim_end.Goals as goal
use Rattle.bpf_suite.proofs.body.trim_end.Goals.{then-loop-end-test+else-is_space, else-loop-end-test}

pub loop-end-preserved : goal.loop-end-preserved
loop-end-preserved c = (
  omega arith,
  trim_end-step c.args.text.now c.loop-end.end c.loop-end-test.true c.loop-end.invariant.0 c.if-is_space.ensures
      ∙ c.loop-end.invariant.1,
)

pub returns : goal.returns
returns c = elim c.loop-end-test.branch [
  | then-loop-end-test+else-is_space w ↦
      trim_end-stop c.args.text.now c.loop-end.end w.loop-end-test.true c.loop-end.invariant.0 w.if-is_space.ensures
      ∙ c.loop-end.invariant.1
  | else-loop-end-test w ↦ trim_end-empty c.args.text.now c.loop-end.end w.loop-end-test.false ∙ c.loop-end.invariant.1
]
