use Rattle.std.proofs.Common.{◌≡◌, ◌++◌}
use Rattle.bpf_join.specs.Gathered.{gathered}
use Rattle.bpf_join.specs.Tables.{header_bytes}
use Rattle.bpf_turns.specs.Objects.{turned_header}
use Rattle.bpf_turns.proofs.headers.with_own_headers.Given as goal

abbrev pub invariant-loop-i : goal.invariant-loop-i
invariant-loop-i l = l.all.items ≡ l.fn.bytes.items ++ gathered (λ i. header_bytes (turned_header l.source l.calls l.at i)) l.i
