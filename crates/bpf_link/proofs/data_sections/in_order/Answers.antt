use Rattle.std.proofs.Common.{[]}
use Rattle.bpf_link.specs.Data.{with_taken}
use Rattle.bpf_link.proofs.Steps.{fails}
use Rattle.bpf_link.proofs.data_sections.in_order.Goals as goal

pub returns-in-Err-clause-err : goal.returns-in-Err-clause-err
returns-in-Err-clause-err c =
    fails (with_taken c.args.found.now) [] c.loop-section.section c.args.count c.loop-section.taken.items c.in-Err.fault
    c.loop-section-test.true c.loop-section.invariant.made c.in-Err.ensures.err
