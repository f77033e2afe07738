use Rattle.bpf_whynot.specs.Keeps.{held_places, writes_one}
use Rattle.bpf_whynot.specs.Levels.{AreSeeds}
use Rattle.bpf_whynot.proofs.keep.writers.Given as goal

abbrev pub invariant-loop-p : goal.invariant-loop-p
invariant-loop-p l = AreSeeds (writes_one l.program (held_places l.values l.wanted) l.wall) l.p l.seeds.items
