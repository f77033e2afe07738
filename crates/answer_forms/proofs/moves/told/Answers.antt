use Rattle.std.proofs.Common.{arith, refl, sym, ◌∙◌}
use Rattle.answer_forms.proofs.Turns.{other-piece}
use Rattle.answer_forms.proofs.moves.told.Goals as goal

pub loop-shape-preserved : goal.loop-shape-preserved
loop-shape-preserved c =
    c.loop-shape.invariant
    ∙ other-piece c.piece_shapes-shape-items.result.now c.loop-shape.shape-index _ c.args.text.now (omega arith) (sym c.in_ok-told.ensures ∙ rw c.in_default.is refl)
