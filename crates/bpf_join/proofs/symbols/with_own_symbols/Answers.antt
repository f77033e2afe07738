use Rattle.std.proofs.Common.{ap, arith}
use Rattle.bpf_join.specs.Symbols.{own_symbol, raw_at}
use Rattle.bpf_join.proofs.Joining.{gathered_all, gathered_more}
use Rattle.bpf_join.proofs.symbols.with_own_symbols.Goals as goal

pub loop-i-preserved : goal.loop-i-preserved
loop-i-preserved c =
    gathered_more _ c.loop-i.i c.args.bytes.items c.loop-i.all.items _ c.in-Ok.new.items c.in-Ok.ensures.ok
    (ap (own_symbol c.args.first.now c.args.second.now c.args.places.now c.args.records c.args.more) c.raw_at.ensures.value) c.loop-i.invariant

pub returns-clause-ok : goal.returns-clause-ok
returns-clause-ok c =
    gathered_all (λ table i. own_symbol c.args.first.now c.args.second.now c.args.places.now c.args.records c.args.more (raw_at table i)) 24 c.loop-i.i c.args.bytes.items _ _ _
    c.table_of-table.ensures (omega arith) c.loop-i.invariant
