use Rattle.std.proofs.Common.{◌≡◌, ◌++◌, ◌+◌, ◌*◌}
use Rattle.std.specs.Prelude.{slice_range}
use Rattle.bpf_join.specs.Gathered.{gathered}
use Rattle.bpf_turns.specs.Blocks.{moved_record}
use Rattle.bpf_turns.proofs.blocks.with_records.Given as goal

abbrev pub invariant-loop-j : goal.invariant-loop-j
invariant-loop-j l =
    l.all.items ≡ l.fn.bytes.items ++ gathered (λ j. moved_record l.object l.call (slice_range l.records (l.size * j) (l.size * j + l.size))) l.j
