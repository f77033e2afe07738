use Rattle.bpf_suite.proofs.Endings.{ending-at}
use Rattle.bpf_suite.proofs.ending.ending_on.Goals as goal

pub returns-clause-ending : goal.returns-clause-ending
returns-clause-ending c =
    ending-at c.args.lines.now _ _ c.in_ok-wrong.wrong c.args.cpu.now c.invariant.ensures c.in_ok-shapes.ensures c.in_ok-bytes.ensures c.in_ok-wrong.ensures
