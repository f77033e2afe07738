use Rattle.std.proofs.Common.{length}
use Rattle.bpf_link.specs.Links.{with_map}
use Rattle.bpf_link.proofs.Steps.{fails}
use Rattle.bpf_link.proofs.words.with_maps.Goals as goal

pub returns-in-Err-clause-err : goal.returns-in-Err-clause-err
returns-in-Err-clause-err c =
    fails (with_map c.args.plan.now c.args.relocations.now) c.args.maps.items c.loop-i.i (length c.args.relocations.now) c.loop-i.all.items c.in-Err.fault
    (rw c.len-i-end.ensures at c.loop-i-test.true) c.loop-i.invariant c.in-Err.ensures.err
