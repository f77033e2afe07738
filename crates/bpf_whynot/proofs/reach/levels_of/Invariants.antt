use Rattle.std.specs.Prelude.{map}
use Rattle.bpf_whynot.specs.Levels.{AreLevels, table_of}
use Rattle.bpf_whynot.proofs.reach.levels_of.Given as goal

abbrev pub invariant-loop-k : goal.invariant-loop-k
invariant-loop-k l = AreLevels l.program l.goals l.k (map table_of l.levels.items)
