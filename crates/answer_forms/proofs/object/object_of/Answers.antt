use Rattle.std.proofs.Common.{arith, refl, sym, ◌∙◌}
use Rattle.answer_forms.proofs.Turns.{other-shape}
use Rattle.answer_forms.proofs.object.object_of.Goals as goal

pub loop-shape-preserved : goal.loop-shape-preserved
loop-shape-preserved c =
    c.loop-shape.invariant
    ∙ other-shape c.args.side.now c.args.shapes.now c.loop-shape.shape-index _ c.args.line.now (omega arith) (sym c.in_ok-object.ensures ∙ rw c.in_default.is refl)
