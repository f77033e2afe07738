use Rattle.std.proofs.Common.{map, take}
use Rattle.std.specs.Prelude.{All}
use Rattle.bpf_lines.specs.Objects.{AreBehind, HasPartLines}
use Rattle.bpf_lines.proofs.objects.with_functions.Given as goal

abbrev pub invariant-loop-k : goal.invariant-loop-k
invariant-loop-k l = record {
  behind : AreBehind l.fn.before.items (take l.k (map (λ other. other.items) l.others)) l.all.items;
  told : All HasPartLines l.all.items;
}
