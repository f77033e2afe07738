use Rattle.std.proofs.Common.{◌≡◌, drop, take}
use Rattle.std.specs.Option.{option_map}
use Rattle.answer_forms.specs.Cuts.{cut_at}
use Rattle.answer_forms.proofs.Steps.{onto}
use Rattle.answer_forms.proofs.cut.cut_at.Given as goal

abbrev pub invariant-loop-at : goal.invariant-loop-at
invariant-loop-at l = cut_at l.words l.text ≡ option_map (onto (take l.at l.text)) (cut_at l.words (drop l.at l.text))
