use Rattle.answer_forms.proofs.Turns.{first-part}
use Rattle.answer_forms.proofs.moves.push_parts.Goals as goal

pub pieces-preserved : goal.pieces-preserved
pieces-preserved c =
    first-part c.pieces.first _ c.in-Some.piece.now _ _ _ _ _ c.in-Some.ensures.next (rw c.trim_start-text.ensures at c.in_ok-push_part.ensures)
    (rw c.trim_start-text.ensures at c.is_first_still-first.ensures) c.pieces.invariant
