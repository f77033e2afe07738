use Rattle.std.proofs.Common.{take}
use Rattle.counted_io.specs.Pieces.{text_of}
use Rattle.counted_io.specs.Writing.{WritesAfter}
use Rattle.counted_io.proofs.piece.put_all.Given as goal

abbrev pub invariant-loop-piece : goal.invariant-loop-piece
invariant-loop-piece g l =
    WritesAfter g.W.Write.contents l.fn.writer l.fn.so_far l.writer l.written (text_of (take l.piece-index l.pieces))
