use Rattle.std.proofs.Common.{◌≡◌, ◌++◌, length, true}
use Rattle.answer_forms.specs.Cuts.{pieces}
use Rattle.answer_forms.specs.Moves.{parts_from}
use Rattle.answer_forms.proofs.moves.push_parts.Given as goal

abbrev pub invariant-pieces : goal.invariant-pieces
invariant-pieces l = l.out.items ++ parts_from l.first l.pieces ≡ l.fn.out.items ++ parts_from true (pieces 59 l.text)

abbrev pub decreases-pieces : goal.decreases-pieces
decreases-pieces l = length l.pieces
