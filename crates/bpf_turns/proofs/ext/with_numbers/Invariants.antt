use Rattle.std.proofs.Common.{◌≡◌, ◌++◌}
use Rattle.std.specs.Prelude.{slice_index}
use Rattle.bpf_join.specs.Gathered.{gathered}
use Rattle.bpf_turns.specs.Blocks.{number}
use Rattle.bpf_turns.proofs.ext.with_numbers.Given as goal

abbrev pub invariant-loop-i : goal.invariant-loop-i
invariant-loop-i l = l.all.items ≡ l.fn.bytes.items ++ gathered (λ i. number (slice_index l.list i)) l.i
