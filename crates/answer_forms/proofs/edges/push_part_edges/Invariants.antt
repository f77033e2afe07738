use Rattle.std.proofs.Common.{◌≡◌, ◌++◌, ◌-◌, map}
use Rattle.std.specs.BTreeMap.{get}
use Rattle.std.specs.Ordering.{nat_cmp}
use Rattle.answer_forms.specs.Edges.{edges_to, part_edges}
use Rattle.answer_forms.specs.Parts.{places}
use Rattle.answer_forms.proofs.edges.push_part_edges.Given as goal

abbrev pub invariant-loop : goal.invariant-loop
invariant-loop l =
    l.dot.items ++ edges_to l.k l.before (map (get nat_cmp l.tellers) (places l.place (l.fn.part.read - l.counter)))
    ≡ l.fn.dot.items ++ part_edges (get nat_cmp l.tellers) l.k l.fn.part
