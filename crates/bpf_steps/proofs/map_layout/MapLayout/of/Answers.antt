use Rattle.bpf_steps.proofs.Spans.{taken_more}
use Rattle.bpf_steps.proofs.map_layout.MapLayout.of.Goals as goal

pub loop-map-preserved : goal.loop-map-preserved
loop-map-preserved c = taken_more _ _ _ _ _ c.loop-map.invariant c.shape_of.ensures c.add.ensures
