use Rattle.std.proofs.Common.{◌≡◌, ◌++◌}
use Rattle.bpf_join.specs.Gathered.{gathered}
use Rattle.bpf_turns.specs.Objects.{turned_relocation}
use Rattle.bpf_link.specs.Tables.{relocation_at}
use Rattle.bpf_turns.proofs.relocations.with_entries.Given as goal

abbrev pub invariant-loop-j : goal.invariant-loop-j
invariant-loop-j l = l.all.items ≡ l.fn.bytes.items ++ gathered (λ j. turned_relocation l.object l.call (relocation_at l.entries j)) l.j
