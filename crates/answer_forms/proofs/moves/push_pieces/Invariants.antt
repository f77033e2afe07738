use Rattle.std.proofs.Common.{◌≡◌, ◌++◌, flat_map, length}
use Rattle.answer_forms.specs.Cuts.{pieces}
use Rattle.answer_forms.specs.Objects.{piece_or_part}
use Rattle.answer_forms.proofs.moves.push_pieces.Given as goal

abbrev pub invariant-pieces : goal.invariant-pieces
invariant-pieces l = l.out.items ++ flat_map piece_or_part l.pieces ≡ l.fn.out.items ++ flat_map piece_or_part (pieces 59 l.text)

abbrev pub decreases-pieces : goal.decreases-pieces
decreases-pieces l = length l.pieces
