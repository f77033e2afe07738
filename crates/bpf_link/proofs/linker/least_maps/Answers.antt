use Rattle.std.proofs.Common.{slice_index_or}
use Rattle.bpf_link.proofs.PlainMaps.{room, below}
use Rattle.bpf_link.proofs.linker.least_maps.Goals as goal

pub returns-in-Err : goal.returns-in-Err
returns-in-Err c =
    absurd (room c.loop-shape.maps (slice_index_or c.args.shapes.now c.loop-shape.shape-index (record { value_size = 0; entries = 0 })) c.in-Err.field-0
    (below c.args.count c.loop-shape.shape-index c.loop-shape.maps c.args.shapes.now c.loop-shape.invariant c.loop-shape-test.true c.requires.few)
    (c.requires.possible c.loop-shape.shape-index (record { value_size = 0; entries = 0 }) c.loop-shape-test.true) c.in-Err.ensures.fault.applies)
