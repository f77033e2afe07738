use Rattle.std.proofs.Common.{ap}
use Rattle.bpf_turns.specs.Objects.{turned_relocation}
use Rattle.bpf_turns.proofs.Pieces.{gathered_more}
use Rattle.bpf_turns.proofs.relocations.with_entries.Goals as goal

pub loop-j-preserved : goal.loop-j-preserved
loop-j-preserved c =
    gathered_more _ c.loop-j.j c.args.bytes.items c.loop-j.all.items _ c.in-Ok.new.items c.in-Ok.ensures.ok
    (ap (turned_relocation c.args.object.now c.args.call.now) c.at.ensures) c.loop-j.invariant
