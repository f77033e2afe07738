use Rattle.bpf_cover.proofs.Marks.{marks-push}
use Rattle.bpf_cover.proofs.coverage.marks_of.Goals as goal

pub loop-slot-preserved : goal.loop-slot-preserved
loop-slot-preserved c =
    let pushed = rw c.in-Ok.is at c.push.ensures.items in
    rw (pushed, c.mark_at.ensures) (marks-push c.args.program.now c.loop-slot.marks.items c.loop-slot.slot c.loop-slot.invariant)
