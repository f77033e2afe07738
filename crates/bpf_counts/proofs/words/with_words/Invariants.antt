use Rattle.std.proofs.Common.{◌≡◌, ◌++◌}
use Rattle.bpf_counts.specs.Btf.{first_bytes}
use Rattle.bpf_counts.proofs.words.with_words.Given as goal

abbrev pub invariant-loop-i : goal.invariant-loop-i
invariant-loop-i l = l.all.items ≡ l.fn.bytes.items ++ first_bytes l.words l.i
