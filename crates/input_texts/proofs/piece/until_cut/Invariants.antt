use Rattle.std.proofs.Common.{◌≡◌, ◌++◌, take, drop}
use Rattle.input_texts.specs.Pieces.{until_cut}
use Rattle.input_texts.proofs.piece.until_cut.Given as goal

abbrev pub invariant-loop-at : goal.invariant-loop-at
invariant-loop-at l = take l.at l.text ++ until_cut (drop l.at l.text) ≡ until_cut l.text
