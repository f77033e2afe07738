use Rattle.std.proofs.Common.{◌≡◌, take}
use Rattle.std.specs.Prelude.{map}
use Rattle.bpf_link.specs.Links.{shape_of_data, AllShapes}
use Rattle.bpf_link.proofs.linker.data_shapes.Given as goal

abbrev pub invariant-loop-section : goal.invariant-loop-section
invariant-loop-section l = record { made : l.shapes.items ≡ map (shape_of_data l.plan) (take l.section-index l.taken); possible : AllShapes l.shapes.items }
