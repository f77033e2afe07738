use Rattle.std.proofs.Common.{ℕ, List, take}
use Rattle.bpf_steps.specs.Regions.{maps_len}
use Rattle.bpf_suite.specs.Asks.{least_maps}
use Rattle.bpf_suite.specs.Images.{Holds, Shows}
use Rattle.bpf_suite.proofs.image.runs_of.Given as goal

abbrev pub invariant-loop-map : goal.invariant-loop-map
invariant-loop-map l = (bytes : List ℕ) → Shows l.cpu (least_maps l.asks) bytes → Holds (least_maps l.asks) bytes l.items.items (maps_len (take l.map (least_maps l.asks)))
