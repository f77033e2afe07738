use Rattle.std.proofs.Common.{◌∙◌, arith}
use Rattle.std.specs.BTreeMap.{get}
use Rattle.std.specs.Ordering.{nat_cmp}
use Rattle.answer_forms.proofs.Edging.{next-place}
use Rattle.answer_forms.proofs.edges.push_part_edges.Goals as goal

pub loop-preserved : goal.loop-preserved
loop-preserved c =
    next-place (get nat_cmp c.args.tellers.now) c.args.k c.loop.place c.args.part.read c.loop.counter c.loop.before _ _ _ _ (omega arith)
    (c.copied-line.ensures ∙ c.get.ensures.value) c.in_ok-push_edge_to.ensures c.loop.invariant
