use Rattle.std.proofs.Common.{rules}
use Rattle.bpf_whynot.proofs.Walking.{begins_on}
use Rattle.bpf_whynot.proofs.walk.begun.Goals as goal

pub loop-slot-preserved : goal.loop-slot-preserved
loop-slot-preserved c = begins_on c.args.seeds.now c.loop-slot.slot _ c.loop-slot.walk c.in-Ok-mark_if.next (search rules) c.loop-slot.invariant c.in-Ok-mark_if.ensures
