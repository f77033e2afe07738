use Rattle.std.proofs.Common.{[], length}
use Rattle.bpf_link.specs.Setup.{with_section_image}
use Rattle.bpf_link.proofs.Steps.{fails_or}
use Rattle.bpf_link.proofs.setup.stores_of.Goals as goal

pub returns-in-Err-clause-err : goal.returns-in-Err-clause-err
returns-in-Err-clause-err c =
    fails_or (with_section_image c.args.placed.now) [] c.loop-k.k (length c.args.placed.now.taken) c.loop-k.setup.items c.in-Err.fault
    (rw c.taken-k-end.ensures.value at c.loop-k-test.true) c.loop-k.invariant c.in-Err.ensures.err
