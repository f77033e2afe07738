use Rattle.std.proofs.Common.{arith}
use Rattle.std.specs.BTreeMap.{get}
use Rattle.std.specs.Ordering.{nat_cmp}
use Rattle.answer_forms.proofs.Edging.{edges-before, teller-before}
use Rattle.answer_forms.proofs.edges.push_edges.Goals as goal

pub loop-done-preserved : goal.loop-done-preserved
loop-done-preserved c = (
  edges-before c.args.lines.now c.loop-done.done _ (get nat_cmp c.loop-done.tellers) _ _ _ _ (omega arith) c.loop-done.invariant.1 c.loop-done.invariant.0
      c.read_text.ensures c.in_ok-push_line_edges.ensures,
  λ p. teller-before c.args.lines.now c.loop-done.done p _ _ _ (omega arith) (c.loop-done.invariant.1 p) (c.in_ok-tell.ensures p),
)
