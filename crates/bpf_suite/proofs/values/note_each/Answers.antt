use Rattle.std.proofs.Common.{arith}
use Rattle.bpf_suite.proofs.Told.{few-more}
use Rattle.bpf_suite.proofs.values.note_each.Goals as goal

pub note_wrong-requires : goal.note_wrong-requires
note_wrong-requires c =
    let few = few-more c.args.cpu.now c.args.lines.now c.loop-line.line-index c.loop-line.wrong c.loop-line.invariant in
    omega (arith, few, c.loop-line-test.true, c.loop-line.auto.line-index-end)
