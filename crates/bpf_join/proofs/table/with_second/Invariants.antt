use Rattle.std.proofs.Common.{◌≡◌, ◌++◌}
use Rattle.bpf_join.specs.Gathered.{gathered}
use Rattle.bpf_join.specs.Tables.{second_header, header_bytes}
use Rattle.bpf_join.proofs.table.with_second.Given as goal

abbrev pub invariant-loop-i : goal.invariant-loop-i
invariant-loop-i l = l.all.items ≡ l.fn.bytes.items ++ gathered (λ i. header_bytes (second_header l.second l.places i)) l.i
