use Rattle.std.proofs.Common.{◌≡◌, ◌≤◌}
use Rattle.bpf_join.specs.Joined.{wanted_below}
use Rattle.bpf_join.proofs.joined.wanted.Given as goal

abbrev pub invariant-loop-i : goal.invariant-loop-i
invariant-loop-i l = record { made : l.count ≡ wanted_below l.first l.i; few : l.count ≤ l.i }
