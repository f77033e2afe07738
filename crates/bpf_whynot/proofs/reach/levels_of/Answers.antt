use Rattle.std.proofs.Common.{arith}
use Rattle.std.proofs.lemmas.List.{length-map}
use Rattle.bpf_whynot.specs.Levels.{table_of}
use Rattle.bpf_whynot.proofs.Leveling.{next_level}
use Rattle.bpf_whynot.proofs.reach.levels_of.Goals as goal

pub loop-k-preserved : goal.loop-k-preserved
loop-k-preserved c = next_level c.args.program.now c.args.goals.now c.loop-k.k c.loop-k.levels.items c.push_reserved-in-Ok-level_of-2.new.self.items c.index.result.now c.in-Ok-level_of-2.level c.loop-k.invariant (omega (arith, c.loop-k.auto.k)) (omega (arith, c.loop-k.auto.k, c.loop-k.invariant.size, length-map c.loop-k.levels.items table_of)) c.index.ensures c.in-Ok-level_of-2.ensures c.push_reserved-in-Ok-level_of-2.ensures.items
