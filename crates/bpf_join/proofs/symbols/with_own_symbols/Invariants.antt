use Rattle.std.proofs.Common.{◌≡◌, ◌++◌}
use Rattle.bpf_join.specs.Gathered.{gathered}
use Rattle.bpf_join.specs.Symbols.{own_symbol, raw_at}
use Rattle.bpf_join.proofs.symbols.with_own_symbols.Given as goal

abbrev pub invariant-loop-i : goal.invariant-loop-i
invariant-loop-i l = l.all.items ≡ l.fn.bytes.items ++ gathered (λ i. own_symbol l.first l.second l.places l.records l.more (raw_at l.table i)) l.i
