use Rattle.std.proofs.Common.{◌≡◌, ◌≤◌, ◌+◌, ◌++◌, drop}
use Rattle.input_texts.specs.Pieces.{pieces, pieces_behind}
use Rattle.input_texts.proofs.piece.pieces.Given as goal

abbrev pub invariant-loop-at : goal.invariant-loop-at
invariant-loop-at l = record {
  line : l.line ≤ l.at + 1;
  found : l.found.items ++ pieces_behind l.line (drop l.at l.text) ≡ pieces l.text;
}
