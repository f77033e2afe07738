use Rattle.std.proofs.Common.{◌≡◌, [], Ok, length}
use Rattle.bpf_link.specs.MapTypes.{with_typed}
use Rattle.bpf_link.specs.Plans.{steps}
use Rattle.bpf_link.proofs.map_types.typed_shapes.Given as goal

abbrev pub invariant-loop-k : goal.invariant-loop-k
invariant-loop-k l = record {
  made : steps (with_typed l.plan l.types l.places) [] l.k ≡ Ok l.shapes.items;
  size : length l.shapes.items ≡ l.k;
}
