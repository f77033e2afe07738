use Rattle.std.proofs.Common.{◌≡◌, ◌-◌}
use Rattle.bpf_diff.proofs.Leaving.{among_words}
use Rattle.bpf_diff.proofs.seen.first_of_words.Given as goal

abbrev pub invariant-loop-i : goal.invariant-loop-i
invariant-loop-i l = among_words l.sides l.i (l.len - l.i) ≡ among_words l.sides 0 l.len
