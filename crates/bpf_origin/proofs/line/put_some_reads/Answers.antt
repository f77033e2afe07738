use Rattle.std.proofs.Common.{arith}
use Rattle.bpf_origin.specs.Texts.{read_text}
use Rattle.bpfdb_script.proofs.Telling.{Telling-start, Telling-step, Telling-end, pieces-next, pieces-end}
use Rattle.bpf_origin.proofs.line.put_some_reads.Goals as goal

pub loop-part-init : goal.loop-part-init
loop-part-init g c = Telling-start _ _ _ _

pub loop-part-preserved : goal.loop-part-preserved
loop-part-preserved g c = Telling-step _ _ _ _ _ _ _ _ _ _ _ c.loop-part.invariant c.put_read-told.ensures (pieces-next read_text c.args.parts.now c.loop-part.part-index _ (omega arith))

pub returns : goal.returns
returns g c = Telling-end _ _ _ _ _ _ _ c.loop-part.invariant (pieces-end read_text c.args.parts.now c.loop-part.part-index (omega arith))
