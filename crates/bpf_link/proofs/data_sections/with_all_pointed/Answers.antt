use Rattle.bpf_link.specs.Data.{with_pointed}
use Rattle.bpf_link.proofs.Steps.{fails}
use Rattle.bpf_link.proofs.data_sections.with_all_pointed.Goals as goal

pub returns-in-Err-clause-err : goal.returns-in-Err-clause-err
returns-in-Err-clause-err c =
    fails (with_pointed c.args.plan.now) c.args.found.items c.loop-k.k 16 c.loop-k.all.items c.in-Err.fault
    c.loop-k-test.true c.loop-k.invariant c.in-Err.ensures.err
