-- The line of the depth, and then a frame's each turn.
use Rattle.std.proofs.Common.{◌<◌, length, refl, arith}
use Rattle.bpfdb_script.specs.Texts.{text_of_frame, text_of_frames}
use Rattle.bpfdb_script.proofs.Telling.{Telling-start, Telling-step, Telling-end, pieces-back, pieces-back-end}
use Rattle.bpfdb_script.proofs.frames.put_frames.Goals as goal

pub loop-i-init : goal.loop-i-init
loop-i-init g c =
    Telling-step _ _ _ _ _ _ _ _ _ _ _ (Telling-start _ _ _ _) (rw c.depth-depth.ensures at c.put_all-told.ensures) refl

pub loop-i-preserved : goal.loop-i-preserved
loop-i-preserved g c =
    let xs = c.args.cpu.now.frames in
    let inside : c.loop-i.i < length xs = omega (arith, c.depth-depth.ensures, c.loop-i-test.true) in
    Telling-step _ _ _ _ _ _ _ _ _ _ _ c.loop-i.invariant c.put_frame-told.ensures (pieces-back text_of_frame xs c.loop-i.i inside)

pub returns : goal.returns
unfolding text_of_frames
returns g c =
    Telling-end _ _ _ _ _ _ _ c.loop-i.invariant (pieces-back-end text_of_frame c.args.cpu.now.frames c.loop-i.i (omega (arith, c.depth-depth.ensures)))
