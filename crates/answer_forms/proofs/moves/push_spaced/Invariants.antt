use Rattle.std.proofs.Common.{◌≡◌, ◌++◌, drop}
use Rattle.answer_forms.specs.Moves.{spaced}
use Rattle.answer_forms.proofs.moves.push_spaced.Given as goal

abbrev pub invariant-loop-at : goal.invariant-loop-at
invariant-loop-at l = l.out.items ++ spaced l.of_parts (drop l.at l.text) ≡ l.fn.out.items ++ spaced l.of_parts l.text
