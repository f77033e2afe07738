use Rattle.std.proofs.Common.{◌++◌, codes, drop, flat_map}
use Rattle.bpfdb_script.proofs.Telling.{Telling}
use Rattle.suite_files.specs.Maps.{shape_text}
use Rattle.suite_files.proofs.maps.put_further.Given as goal

abbrev pub invariant-loop-shape : goal.invariant-loop-shape
invariant-loop-shape g l = Telling g.W.Write.contents l.fn.writer l.fn.so_far l.writer l.told (flat_map (λ shape. codes "," ++ shape_text shape) (drop l.shape-index l.shapes)) (flat_map (λ shape. codes "," ++ shape_text shape) l.shapes)
