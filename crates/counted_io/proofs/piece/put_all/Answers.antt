use Rattle.std.proofs.Common.{arith}
use Rattle.counted_io.proofs.Pieces.{none_written, next_written, all_written}
use Rattle.counted_io.proofs.piece.put_all.Goals as goal

pub loop-piece-init : goal.loop-piece-init
loop-piece-init g c = none_written g.W.Write.contents _ _

pub loop-piece-preserved : goal.loop-piece-preserved
loop-piece-preserved g c =
    next_written g.W.Write.contents _ _ _ _ _ _ c.args.pieces.now c.loop-piece.piece-index _ c.loop-piece-test.true c.loop-piece.invariant c.put_piece-written.ensures

pub returns : goal.returns
returns g c = all_written g.W.Write.contents _ _ _ _ _ c.loop-piece.piece-index (omega (arith, c.loop-piece-test.false, c.loop-piece.auto.piece-index-end)) c.loop-piece.invariant
