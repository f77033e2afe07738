use Rattle.std.proofs.Common.{take}
use Rattle.bpf_suite.specs.Asks.{AreFirsts}
use Rattle.bpf_suite.proofs.asks.ask_of.Given as goal

abbrev pub invariant-loop-place : goal.invariant-loop-place
invariant-loop-place l = AreFirsts (take l.place l.lines) l.map l.ask.size l.ask.firsts.items
