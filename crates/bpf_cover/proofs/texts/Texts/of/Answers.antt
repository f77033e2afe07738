use Rattle.std.proofs.Common.{arith}
use Rattle.bpf_cover.proofs.Making.{Made-more}
use Rattle.bpf_cover.proofs.texts.Texts.of.Goals as goal

pub loop-slot-preserved : goal.loop-slot-preserved
loop-slot-preserved c =
    let pushed = rw c.in-Ok.is at c.push.ensures.items in
    rw pushed (Made-more c.args.program.now c.loop-slot.slot _ _ _ _ c.loop-slot.invariant c.in_ok-bytes.ensures (omega arith) (omega arith))
