use Rattle.std.proofs.Common.{◌≡◌, ◌++◌, drop, flat_map}
use Rattle.answer_forms.specs.Graphs.{escaped}
use Rattle.answer_forms.proofs.graph.push_escaped.Given as goal

abbrev pub invariant-loop-byte : goal.invariant-loop-byte
invariant-loop-byte l = l.dot.items ++ flat_map escaped (drop l.byte-index l.text) ≡ l.fn.dot.items ++ flat_map escaped l.text
