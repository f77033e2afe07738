use Rattle.std.proofs.Common.{◌≡◌, true, take}
use Rattle.std.specs.List.{list_all}
use Rattle.std.specs.Prelude.{map}
use Rattle.bpf_link.specs.Shapes.{is_array, shape_at}
use Rattle.bpf_link.proofs.shapes.shapes_at.Given as goal

abbrev pub invariant-loop-place : goal.invariant-loop-place
invariant-loop-place l = record {
  arrays : list_all (is_array l.definitions) (take l.place-index l.places) ≡ true;
  made : l.shapes.items ≡ map (shape_at l.definitions) (take l.place-index l.places);
}
