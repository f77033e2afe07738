use Rattle.std.proofs.Common.{◌≡◌}
use Rattle.bpf_join.specs.Tables.{points_below}
use Rattle.bpf_join.proofs.table.has_pointers.Given as goal

abbrev pub invariant-loop-i : goal.invariant-loop-i
invariant-loop-i l = l.found ≡ points_below l.object l.i
