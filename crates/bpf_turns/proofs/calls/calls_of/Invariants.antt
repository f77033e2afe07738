use Rattle.std.proofs.Common.{◌≡◌, get_or, length}
use Rattle.bpf_link.specs.Objects.{below}
use Rattle.bpf_turns.specs.Calls.{call_of, no_seat}
use Rattle.bpf_turns.proofs.calls.calls_of.Given as goal

abbrev pub invariant-loop-k : goal.invariant-loop-k
invariant-loop-k l = record {
  made : l.calls.items ≡ below (λ k. call_of l.object l.seats (get_or l.seats k no_seat)) l.k;
  count : length l.calls.items ≡ l.k;
}
