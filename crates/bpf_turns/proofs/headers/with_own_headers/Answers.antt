use Rattle.std.proofs.Common.{ap}
use Rattle.bpf_join.specs.Tables.{header_bytes}
use Rattle.bpf_turns.proofs.Pieces.{gathered_more}
use Rattle.bpf_turns.proofs.headers.with_own_headers.Goals as goal

pub loop-i-preserved : goal.loop-i-preserved
loop-i-preserved c =
    gathered_more _ c.loop-i.i c.args.bytes.items c.loop-i.all.items _ c.in-Ok.new.items c.in-Ok.ensures.ok
    (ap header_bytes c.turned_header.ensures) c.loop-i.invariant
