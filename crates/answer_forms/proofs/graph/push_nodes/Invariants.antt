use Rattle.std.proofs.Common.{◌≡◌, ◌++◌, drop, map}
use Rattle.answer_forms.specs.Graphs.{nodes}
use Rattle.answer_forms.proofs.graph.push_nodes.Given as goal

abbrev pub invariant-loop-k : goal.invariant-loop-k
invariant-loop-k l =
    l.dot.items ++ nodes l.k (drop l.k (map (λ s. s.now) l.lines)) ≡ l.fn.dot.items ++ nodes 0 (map (λ s. s.now) l.lines)
