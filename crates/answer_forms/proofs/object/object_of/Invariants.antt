use Rattle.std.proofs.Common.{◌≡◌, drop, map}
use Rattle.answer_forms.specs.Objects.{object_of}
use Rattle.answer_forms.specs.Shapes.{pattern_of}
use Rattle.answer_forms.proofs.object.object_of.Given as goal

abbrev pub invariant-loop-shape : goal.invariant-loop-shape
invariant-loop-shape l = object_of l.side (map pattern_of l.shapes) l.line ≡ object_of l.side (map pattern_of (drop l.shape-index l.shapes)) l.line
