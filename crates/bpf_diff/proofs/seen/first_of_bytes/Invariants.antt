use Rattle.std.proofs.Common.{◌≡◌, ◌+◌, ◌-◌}
use Rattle.bpf_diff.proofs.Leaving.{among_bytes}
use Rattle.bpf_diff.proofs.seen.first_of_bytes.Given as goal

abbrev pub invariant-loop-i : goal.invariant-loop-i
invariant-loop-i l = among_bytes l.sides (l.address + l.i) (l.len - l.i) ≡ among_bytes l.sides l.address l.len
