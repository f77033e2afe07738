use Rattle.std.proofs.Common.{◌≡◌, ◌++◌, length, map}
use Rattle.answer_forms.specs.Cuts.{pieces}
use Rattle.answer_forms.proofs.graph.lines_of.Given as goal

abbrev pub invariant-rest : goal.invariant-rest
invariant-rest l = map (λ s. s.now) l.lines.items ++ l.rest ≡ pieces 10 l.text

abbrev pub decreases-rest : goal.decreases-rest
decreases-rest l = length l.rest
