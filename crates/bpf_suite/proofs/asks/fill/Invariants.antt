use Rattle.std.proofs.Common.{◌≡◌, ◌≤◌, ◌-◌, ◌++◌, length, replicate}
use Rattle.bpf_suite.proofs.asks.fill.Given as goal

abbrev pub invariant-loop : goal.invariant-loop
invariant-loop l = (l.spots.items ≡ l.fn.spots.items ++ replicate (l.counter - length l.fn.spots.items) l.spot) × (l.n ≤ l.begun → l.counter ≡ l.begun)
