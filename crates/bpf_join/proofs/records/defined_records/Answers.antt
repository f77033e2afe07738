use Rattle.std.proofs.Common.{[], Ok, length}
use Rattle.bpf_link.proofs.Steps.{fails_or, one_more}
use Rattle.bpf_join.specs.Records.{defined, with_record}
use Rattle.bpf_join.proofs.records.defined_records.Goals as goal

pub loop-k-preserved : goal.loop-k-preserved
loop-k-preserved c =
    one_more (with_record (defined c.args.plan.now) c.args.places.now) [] c.loop-k.k c.loop-k.records.items (Ok c.in-Ok.new.items) c.loop-k.invariant c.in-Ok.ensures.ok

pub returns-in-Err-clause-err : goal.returns-in-Err-clause-err
returns-in-Err-clause-err c =
    fails_or (with_record (defined c.args.plan.now) c.args.places.now) [] c.loop-k.k (length c.args.places.now) c.loop-k.records.items c.in-Err.fault
    c.loop-k-test.true c.loop-k.invariant c.in-Err.ensures.err
