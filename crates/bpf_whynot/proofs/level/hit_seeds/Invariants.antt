use Rattle.bpf_whynot.specs.Levels.{AreSeeds, is_seed}
use Rattle.bpf_whynot.proofs.level.hit_seeds.Given as goal

abbrev pub invariant-loop-slot : goal.invariant-loop-slot
invariant-loop-slot l = AreSeeds (is_seed l.program l.goals l.above) l.slot l.seeds.items
