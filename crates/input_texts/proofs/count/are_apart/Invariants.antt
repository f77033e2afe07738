use Rattle.std.proofs.Common.{◌≡◌, map}
use Rattle.input_texts.specs.Counts.{are_apart}
use Rattle.input_texts.proofs.count.are_apart.Given as goal

abbrev pub invariant-loop-k : goal.invariant-loop-k
invariant-loop-k l = l.are_apart ≡ are_apart (map (λ text. text.now) l.texts) l.k
