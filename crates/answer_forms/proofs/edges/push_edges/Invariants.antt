use Rattle.std.proofs.Common.{◌≡◌, ◌++◌, ◌-◌, ℕ, drop, length, map}
use Rattle.std.specs.BTreeMap.{get}
use Rattle.std.specs.Ordering.{nat_cmp}
use Rattle.answer_forms.specs.Edges.{edges, teller}
use Rattle.answer_forms.proofs.edges.push_edges.Given as goal

abbrev pub invariant-loop-done : goal.invariant-loop-done
invariant-loop-done l =
    (l.dot.items ≡ l.fn.dot.items ++ edges (length l.lines - l.done) (drop (length l.lines - l.done) (map (λ s. s.now) l.lines)))
    × ((p : ℕ) → get nat_cmp l.tellers p ≡ teller (length l.lines - l.done) (drop (length l.lines - l.done) (map (λ s. s.now) l.lines)) p)
