use Rattle.std.proofs.Common.{◌≡◌, ◌-◌, ℕ}
use Rattle.std.specs.BTreeMap.{get}
use Rattle.std.specs.Ordering.{nat_cmp}
use Rattle.answer_forms.specs.Parts.{places}
use Rattle.answer_forms.specs.Tellers.{told_or}
use Rattle.answer_forms.proofs.tellers.tell_places.Given as goal

abbrev pub invariant-loop : goal.invariant-loop
invariant-loop l =
    (p : ℕ) → told_or (places l.place (l.count - l.counter)) l.k (get nat_cmp l.tellers p) p ≡ told_or (places l.first l.count) l.k (get nat_cmp l.fn.tellers p) p
