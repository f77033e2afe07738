use Rattle.std.proofs.Common.{length}
use Rattle.bpf_link.specs.Data.{with_reference}
use Rattle.bpf_link.proofs.Steps.{fails}
use Rattle.bpf_link.proofs.data_sections.with_references.Goals as goal

pub returns-in-Err-clause-err : goal.returns-in-Err-clause-err
returns-in-Err-clause-err c =
    fails (with_reference c.args.plan.now c.args.kind c.args.relocations.now) c.args.found.items c.loop-i.i (length c.args.relocations.now) c.loop-i.all.items c.in-Err.fault
    (rw c.len-i-end.ensures at c.loop-i-test.true) c.loop-i.invariant c.in-Err.ensures.err
