use Rattle.std.proofs.Common.{◌≡◌, []}
use Rattle.std.specs.Prelude.{map}
use Rattle.std.specs.List.{range_with_len}
use Rattle.bpf_cover.specs.Coverage.{mark_at}
use Rattle.bpf_cover.proofs.coverage.marks_of.Given as goal

abbrev pub invariant-loop-slot : goal.invariant-loop-slot
invariant-loop-slot l = l.marks.items ≡ map (mark_at l.program []) (range_with_len 0 l.slot)
