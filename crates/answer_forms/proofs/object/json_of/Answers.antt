use Rattle.answer_forms.specs.Objects.{ended_object}
use Rattle.answer_forms.specs.Tables.{patterns_of}
use Rattle.answer_forms.proofs.Turns.{first-text}
use Rattle.answer_forms.proofs.object.json_of.Goals as goal

pub lines-preserved : goal.lines-preserved
lines-preserved c =
    first-text (ended_object (patterns_of c.args.answer)) c.in-Some.line.now _ _ _ _ _ c.in-Some.ensures.next
    (rw c.shapes_of-shapes.ensures at c.in_ok-push_line.ensures) c.lines.invariant
