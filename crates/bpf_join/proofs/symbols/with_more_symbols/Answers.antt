use Rattle.std.proofs.Common.{ap}
use Rattle.bpf_join.specs.Symbols.{another_symbol}
use Rattle.bpf_join.proofs.Joining.{gathered_more}
use Rattle.bpf_join.proofs.symbols.with_more_symbols.Goals as goal

pub loop-i-preserved : goal.loop-i-preserved
loop-i-preserved c =
    gathered_more _ c.loop-i.i c.args.bytes.items c.loop-i.all.items _ c.in-Ok.new.items c.in-Ok.ensures.ok
    (ap (another_symbol c.args.first.now c.args.second.now c.args.more) c.raw_at.ensures.value) c.loop-i.invariant
