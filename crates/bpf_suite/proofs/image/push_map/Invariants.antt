use Rattle.std.proofs.Common.{ℕ, ◌≡◌, ◌+◌, ◌*◌, List, Some, take}
use Rattle.std.specs.Prelude.{slice_get}
use Rattle.bpf_isa.specs.declared.maps.MapShape.{MapShape}
use Rattle.bpf_steps.specs.Regions.{map_len, maps_len}
use Rattle.bpf_suite.specs.Images.{Holds, Shows}
use Rattle.bpf_suite.proofs.image.push_map.Given as goal

abbrev pub invariant-loop-run : goal.invariant-loop-run
invariant-loop-run l =
    (maps : List MapShape) (bytes : List ℕ) (shape : MapShape) → Shows l.cpu maps bytes → slice_get maps l.map ≡ Some shape → map_len shape ≡ l.len
    → Holds maps bytes l.fn.runs.items (maps_len (take l.map maps)) → Holds maps bytes l.runs.items (maps_len (take l.map maps) + 256 * l.run)
