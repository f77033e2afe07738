use Rattle.std.proofs.Common.{map}
use Rattle.bpf_counts.specs.Counted.{AreCounted}
use Rattle.bpf_counts.proofs.told.counted.Given as goal

abbrev pub invariant-loop-k : goal.invariant-loop-k
invariant-loop-k l = AreCounted l.object l.section (map (λ text. text.now) l.texts) l.k l.all.items
