use Rattle.bpf_trace.proofs.Marking.{empty-run, marks-taken}
use Rattle.std.proofs.Common.{arith}
use Rattle.bpf_trace.proofs.marks.note.Goals as goal

pub returns-then-run-gt0 : goal.returns-then-run-gt0
returns-then-run-gt0 c = λ before x t m.
    marks-taken before x c.args.cpu.now c.args.taken.now c.run_of-run.result c.args.marks.now _ t m c.run_of-run.ensures c.set_run.ensures

pub returns-else-run-gt0 : goal.returns-else-run-gt0
returns-else-run-gt0 c = λ before x t m.
    marks-taken before x c.args.cpu.now c.args.taken.now c.run_of-run.result c.args.marks.now c.args.marks.now t m c.run_of-run.ensures
    (empty-run c.run_of-run.result c.args.marks.now (omega arith))
