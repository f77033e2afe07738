use Rattle.std.proofs.Common.{◌≡◌, map}
use Rattle.input_texts.specs.Counts.{is_named_in}
use Rattle.input_texts.proofs.count.is_named_in.Given as goal

abbrev pub invariant-loop-k : goal.invariant-loop-k
invariant-loop-k l = l.is_named ≡ is_named_in (map (λ text. text.now) l.texts) l.k l.name
