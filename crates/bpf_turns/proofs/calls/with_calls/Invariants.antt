use Rattle.std.proofs.Common.{◌≡◌, ◌++◌, get_or}
use Rattle.bpf_turns.specs.Calls.{call_words, no_call}
use Rattle.bpf_join.specs.Gathered.{gathered}
use Rattle.bpf_turns.proofs.calls.with_calls.Given as goal

abbrev pub invariant-loop-k : goal.invariant-loop-k
invariant-loop-k l = l.all.items ≡ l.fn.words.items ++ gathered (λ k. call_words k (get_or l.calls k no_call)) l.k
