use Rattle.std.proofs.Common.{[], Ok, length}
use Rattle.bpf_link.proofs.Steps.{fails_or, one_more}
use Rattle.bpf_join.specs.Records.{with_map_of}
use Rattle.bpf_join.proofs.records.map_places.Goals as goal

pub loop-i-preserved : goal.loop-i-preserved
loop-i-preserved c = record {
  made = one_more (with_map_of c.args.plan.now) [] c.loop-i.i c.loop-i.places.items (Ok c.in-Ok.new.items) c.loop-i.invariant.made c.in-Ok.ensures.ok;
  short = c.in-Ok.ensures.short;
}

pub returns-in-Err-clause-err : goal.returns-in-Err-clause-err
returns-in-Err-clause-err c =
    fails_or (with_map_of c.args.plan.now) [] c.loop-i.i (length c.args.plan.now.symbols) c.loop-i.places.items c.in-Err.fault
    (rw c.len-i-end.ensures at c.loop-i-test.true) c.loop-i.invariant.made c.in-Err.ensures.err
