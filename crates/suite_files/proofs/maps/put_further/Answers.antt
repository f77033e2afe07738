use Rattle.std.proofs.Common.{◌++◌, codes, arith}
use Rattle.bpfdb_script.proofs.Telling.{Telling-start, Telling-step, Telling-end, pieces-next, pieces-end}
use Rattle.suite_files.specs.Maps.{shape_text}
use Rattle.suite_files.proofs.maps.put_further.Goals as goal

pub loop-shape-init : goal.loop-shape-init
loop-shape-init g c = Telling-start _ _ _ _

pub loop-shape-preserved : goal.loop-shape-preserved
loop-shape-preserved g c =
    Telling-step _ _ _ _ _ _ _ _ _ _ _ c.loop-shape.invariant (rw (c.from-size.ensures, c.from-entries.ensures) at c.put_all-told.ensures)
    (pieces-next (λ shape. codes "," ++ shape_text shape) c.args.shapes.now c.loop-shape.shape-index (record { value_size = 0; entries = 0 }) (omega arith))

pub returns : goal.returns
returns g c =
    Telling-end _ _ _ _ _ _ _ c.loop-shape.invariant
    (pieces-end (λ shape. codes "," ++ shape_text shape) c.args.shapes.now c.loop-shape.shape-index (omega arith))
