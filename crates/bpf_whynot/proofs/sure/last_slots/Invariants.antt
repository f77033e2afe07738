use Rattle.bpf_whynot.specs.Levels.{AreSeeds}
use Rattle.bpf_whynot.specs.Sures.{last_of}
use Rattle.bpf_whynot.proofs.sure.last_slots.Given as goal

abbrev pub invariant-loop-p : goal.invariant-loop-p
invariant-loop-p l = AreSeeds (last_of l.program l.slot l.to_slot) l.p l.seeds.items
