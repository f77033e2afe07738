use Rattle.std.proofs.Common.{arith, ◌∙◌}
use Rattle.bpfdb_script.proofs.Telling.{Telling-start, Telling-step, Telling-end}
use Rattle.bpf_trace.proofs.Counting.{lines_next, lines_end}
use Rattle.bpf_trace.proofs.profile.Profile.put.Goals as goal

pub loop-slot-init : goal.loop-slot-init
loop-slot-init g c = Telling-start _ _ _ _

pub loop-slot-preserved : goal.loop-slot-preserved
loop-slot-preserved g c =
    Telling-step _ _ _ _ _ _ _ _ _ _ _ c.loop-slot.invariant c.put_count-told.ensures (lines_next c.args.texts c.args.program.now c.as_slice-counts.result.now c.loop-slot.slot (omega arith))

pub returns : goal.returns
returns g c =
    let whole = Telling-end _ _ _ _ _ _ _ c.loop-slot.invariant (lines_end c.args.texts c.args.program.now c.as_slice-counts.result.now c.loop-slot.slot (omega arith)) in
    rw (c.as_slice-counts.ensures.value ∙ c.self.view_is) at whole
