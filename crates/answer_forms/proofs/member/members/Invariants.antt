use Rattle.std.proofs.Common.{◌≡◌, drop, map}
use Rattle.std.specs.Option.{option_map}
use Rattle.answer_forms.specs.Shapes.{members, spot_of}
use Rattle.answer_forms.proofs.Steps.{onto}
use Rattle.answer_forms.proofs.member.members.Given as goal

abbrev pub invariant-loop-field : goal.invariant-loop-field
invariant-loop-field l = members (map spot_of l.fields) l.text ≡ option_map (onto l.out.items) (members (map spot_of (drop l.field-index l.fields)) l.rest)
