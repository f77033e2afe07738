use Rattle.std.proofs.Common.{◌≡◌, drop}
use Rattle.bpf_diff.proofs.Leaving.{among_maps}
use Rattle.bpf_diff.specs.Seen.{longest}
use Rattle.bpf_diff.proofs.seen.first_of_maps.Given as goal

abbrev pub invariant-loop-i : goal.invariant-loop-i
invariant-loop-i l = among_maps l.sides l.i (drop l.i (longest l.one l.other)) ≡ among_maps l.sides 0 (longest l.one l.other)
