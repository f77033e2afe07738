use Rattle.std.proofs.Common.{◌≡◌, ◌++◌, drop}
use Rattle.std.specs.BTreeMap.{get}
use Rattle.std.specs.Ordering.{nat_cmp}
use Rattle.answer_forms.specs.Edges.{edges_in}
use Rattle.answer_forms.proofs.edges.push_line_edges.Given as goal

abbrev pub invariant-loop-at : goal.invariant-loop-at
invariant-loop-at l =
    l.dot.items ++ edges_in (get nat_cmp l.tellers) l.k (drop l.at l.text) ≡ l.fn.dot.items ++ edges_in (get nat_cmp l.tellers) l.k l.text
