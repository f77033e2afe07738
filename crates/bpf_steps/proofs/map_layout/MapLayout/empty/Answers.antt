use Rattle.bpf_steps.proofs.Spans.{no_spans}
use Rattle.bpf_steps.proofs.map_layout.MapLayout.empty.Goals as goal

pub invariant_of-result : goal.invariant_of-result
invariant_of-result c = let none = no_spans _ c.new.ensures in record { tables = none.tables; laid = none.laid; whole = none.whole }
