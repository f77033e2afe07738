use Rattle.std.proofs.Common.{◌≡◌, ◌++◌, drop, take}
use Rattle.bpf_diff.specs.Against.{unplaced}
use Rattle.bpf_diff.proofs.along.unplaced.Given as goal

abbrev pub invariant-loop-at : goal.invariant-loop-at
invariant-loop-at l = unplaced l.line ≡ take l.at l.line ++ unplaced (drop l.at l.line)
