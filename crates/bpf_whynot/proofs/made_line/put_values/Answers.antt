use Rattle.std.proofs.Common.{arith}
use Rattle.bpf_whynot.specs.Answers.{value_of}
use Rattle.bpfdb_script.proofs.Telling.{Telling-start, Telling-step, Telling-end, pieces-next, pieces-end}
use Rattle.bpf_whynot.proofs.made_line.put_values.Goals as goal

pub loop-part-init : goal.loop-part-init
loop-part-init g c = Telling-start _ _ _ _

pub loop-part-preserved : goal.loop-part-preserved
loop-part-preserved g c = Telling-step _ _ _ _ _ _ _ _ _ _ _ c.loop-part.invariant c.put_part_value-told.ensures (pieces-next (value_of c.args.value) c.args.parts.now c.loop-part.part-index _ (omega arith))

pub returns : goal.returns
returns g c = Telling-end _ _ _ _ _ _ _ c.loop-part.invariant (pieces-end (value_of c.args.value) c.args.parts.now c.loop-part.part-index (omega arith))
