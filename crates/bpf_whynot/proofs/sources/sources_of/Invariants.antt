use Rattle.bpf_whynot.specs.Flows.{AreSources}
use Rattle.bpf_whynot.proofs.sources.sources_of.Given as goal

abbrev pub invariant-loop-slot : goal.invariant-loop-slot
invariant-loop-slot l = AreSources l.program l.slot l.sources
