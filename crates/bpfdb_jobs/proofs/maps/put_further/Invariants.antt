use Rattle.std.proofs.Common.{◌++◌, codes, drop, flat_map}
use Rattle.bpfdb_script.proofs.Telling.{Telling}
use Rattle.bpfdb_jobs.specs.MapLines.{shape_text}
use Rattle.bpfdb_jobs.proofs.maps.put_further.Given as goal

abbrev pub invariant-loop-shape : goal.invariant-loop-shape
invariant-loop-shape g l = Telling g.E.Write.contents l.fn.errors l.fn.so_far l.errors l.told (flat_map (λ shape. codes "," ++ shape_text shape) (drop l.shape-index l.shapes)) (flat_map (λ shape. codes "," ++ shape_text shape) l.shapes)
