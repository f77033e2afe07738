use Rattle.std.proofs.Common.{◌≡◌, ◌++◌}
use Rattle.bpf_join.specs.Gathered.{gathered}
use Rattle.bpf_join.specs.Symbols.{raw_at}
use Rattle.bpf_turns.specs.Objects.{turned_symbol}
use Rattle.bpf_turns.proofs.symbols.with_symbols.Given as goal

abbrev pub invariant-loop-i : goal.invariant-loop-i
invariant-loop-i l = l.all.items ≡ l.fn.bytes.items ++ gathered (λ i. turned_symbol l.calls (raw_at l.table i)) l.i
