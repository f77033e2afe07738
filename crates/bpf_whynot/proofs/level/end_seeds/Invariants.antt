use Rattle.bpf_whynot.specs.Flows.{ends}
use Rattle.bpf_whynot.specs.Levels.{AreSeeds}
use Rattle.bpf_whynot.proofs.level.end_seeds.Given as goal

abbrev pub invariant-loop-slot : goal.invariant-loop-slot
invariant-loop-slot l = AreSeeds (ends l.program) l.slot l.seeds.items
