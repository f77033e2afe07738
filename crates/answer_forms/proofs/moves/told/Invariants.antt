use Rattle.std.proofs.Common.{◌≡◌, drop, map}
use Rattle.answer_forms.specs.Objects.{told_by}
use Rattle.answer_forms.specs.Shapes.{pattern_of}
use Rattle.answer_forms.specs.Tables.{piece_shapes}
use Rattle.answer_forms.proofs.moves.told.Given as goal

abbrev pub invariant-loop-shape : goal.invariant-loop-shape
invariant-loop-shape l = told_by piece_shapes l.text ≡ told_by (map pattern_of (drop l.shape-index l.shape-items)) l.text
