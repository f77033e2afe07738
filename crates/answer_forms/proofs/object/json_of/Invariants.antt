use Rattle.std.proofs.Common.{◌≡◌, ◌++◌, flat_map, length}
use Rattle.answer_forms.specs.Objects.{ended_object, json_of}
use Rattle.answer_forms.specs.Tables.{patterns_of}
use Rattle.answer_forms.proofs.object.json_of.Given as goal

abbrev pub invariant-lines : goal.invariant-lines
invariant-lines l = l.json.items ++ flat_map (ended_object (patterns_of l.fn.answer)) l.lines ≡ json_of l.fn.answer l.text

abbrev pub decreases-lines : goal.decreases-lines
decreases-lines l = length l.lines
