use Rattle.std.proofs.Common.{ap}
use Rattle.bpf_join.specs.Moved.{moved}
use Rattle.bpf_join.proofs.Joining.{gathered_more}
use Rattle.bpf_join.proofs.relocations.with_moved.Goals as goal

pub loop-i-preserved : goal.loop-i-preserved
loop-i-preserved c =
    gathered_more _ c.loop-i.i c.args.bytes.items c.loop-i.all.items _ c.in-Ok.new.items c.in-Ok.ensures.ok
    (ap (moved c.args.part.now c.args.first c.args.count c.args.before) c.at-relocation.ensures) c.loop-i.invariant
