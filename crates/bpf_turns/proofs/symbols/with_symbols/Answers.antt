use Rattle.std.proofs.Common.{ap}
use Rattle.bpf_turns.specs.Objects.{turned_symbol}
use Rattle.bpf_turns.proofs.Pieces.{gathered_more}
use Rattle.bpf_turns.proofs.symbols.with_symbols.Goals as goal

pub loop-i-preserved : goal.loop-i-preserved
loop-i-preserved c =
    gathered_more _ c.loop-i.i c.args.bytes.items c.loop-i.all.items _ c.in-Ok.new.items c.in-Ok.ensures.ok
    (ap (turned_symbol c.args.calls.now) c.raw_at.ensures.value) c.loop-i.invariant
