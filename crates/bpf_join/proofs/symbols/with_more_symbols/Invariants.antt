use Rattle.std.proofs.Common.{◌≡◌, ◌++◌}
use Rattle.bpf_join.specs.Gathered.{gathered}
use Rattle.bpf_join.specs.Symbols.{another_symbol, raw_at}
use Rattle.bpf_join.proofs.symbols.with_more_symbols.Given as goal

abbrev pub invariant-loop-i : goal.invariant-loop-i
invariant-loop-i l = l.all.items ≡ l.fn.bytes.items ++ gathered (λ i. another_symbol l.first l.second l.more (raw_at l.table i)) l.i
