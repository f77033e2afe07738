use Rattle.std.proofs.Common.{ap}
use Rattle.bpf_turns.specs.Blocks.{moved_record}
use Rattle.bpf_turns.proofs.Pieces.{gathered_more}
use Rattle.bpf_turns.proofs.blocks.with_records.Goals as goal

pub loop-j-preserved : goal.loop-j-preserved
loop-j-preserved c =
    gathered_more _ c.loop-j.j c.args.bytes.items c.loop-j.all.items _ c.in-Ok.new.items c.in-Ok.ensures.ok
    (ap (moved_record c.args.object.now c.args.call.now) c.record_at.ensures.value) c.loop-j.invariant
