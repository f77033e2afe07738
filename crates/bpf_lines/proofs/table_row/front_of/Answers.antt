use Rattle.std.proofs.Common.{◌∙◌, arith}
use Rattle.bpf_lines.proofs.Fronts.{front_of-step, front_of-stop, front_of-empty}
use Rattle.bpf_lines.proofs.table_row.front_of.Goals as goal
use Rattle.bpf_lines.proofs.table_row.front_of.Goals.{then-loop-end-test+else-is_other, else-loop-end-test}

pub loop-end-preserved : goal.loop-end-preserved
loop-end-preserved c = (
  omega arith,
  front_of-step c.args.byte c.args.text.now c.loop-end.end c.loop-end-test.true c.loop-end.invariant.0 c.if-is_other.ensures
      ∙ c.loop-end.invariant.1,
)

pub returns-clause-value : goal.returns-clause-value
returns-clause-value c = elim c.loop-end-test.branch [
  | then-loop-end-test+else-is_other w ↦
      front_of-stop c.args.byte c.args.text.now c.loop-end.end w.loop-end-test.true c.loop-end.invariant.0 w.if-is_other.ensures
      ∙ c.loop-end.invariant.1
  | else-loop-end-test w ↦ front_of-empty c.args.byte c.args.text.now c.loop-end.end w.loop-end-test.false ∙ c.loop-end.invariant.1
]
