use Rattle.answer_forms.specs.Objects.{piece_or_part}
use Rattle.answer_forms.proofs.Turns.{first-text}
use Rattle.answer_forms.proofs.moves.push_pieces.Goals as goal

pub pieces-preserved : goal.pieces-preserved
pieces-preserved c =
    first-text piece_or_part c.in-Some.piece.now _ _ _ _ _ c.in-Some.ensures.next (rw c.trim_start.ensures at c.in_ok-push_piece.ensures)
    c.pieces.invariant
