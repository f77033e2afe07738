use Rattle.std.proofs.Common.{◌≡◌, length}
use Rattle.bpf_suite.proofs.Asking.{EachAsked}
use Rattle.bpf_suite.proofs.asks.asks_of.Given as goal

abbrev pub invariant-loop-map : goal.invariant-loop-map
invariant-loop-map l = (length l.asks.items ≡ l.map) × EachAsked l.lines l.asks.items
