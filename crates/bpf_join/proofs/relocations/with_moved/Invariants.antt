use Rattle.std.proofs.Common.{◌≡◌, ◌++◌}
use Rattle.bpf_join.specs.Gathered.{gathered}
use Rattle.bpf_join.specs.Moved.{moved}
use Rattle.bpf_link.specs.Tables.{relocation_at}
use Rattle.bpf_join.proofs.relocations.with_moved.Given as goal

abbrev pub invariant-loop-i : goal.invariant-loop-i
invariant-loop-i l = l.all.items ≡ l.fn.bytes.items ++ gathered (λ i. moved l.part l.first l.count l.before (relocation_at l.part.relocations i)) l.i
