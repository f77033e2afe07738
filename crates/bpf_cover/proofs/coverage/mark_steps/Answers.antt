use Rattle.std.proofs.Common.{arith}
use Rattle.bpf_cover.proofs.Marks.{Marks-start, Marks-step, Marks-ended, Marks-all, runs_if_ok, ended_if_err}
use Rattle.bpf_cover.proofs.coverage.mark_steps.Goals as goal

pub loop-init : goal.loop-init
loop-init c = Marks-start c.args.limit c.args.cpu.now c.args.marks.now

pub loop-preserved : goal.loop-preserved
loop-preserved c =
    let on = runs_if_ok c.advance.result _ _ c.advance.ensures.err c.in-Ok.is in
    let next = rw c.in-Ok.is at c.advance.ensures.next in
    rw next (Marks-step c.args.limit c.args.cpu.now c.loop.cpu c.loop.counter c.args.marks.now c.loop.marks _ c.loop.invariant c.invariant.ensures on c.loop-test.true
    (λ d. rw (c.pc-from.ensures, c.pc.ensures, next) at (c.note.ensures d)))

pub returns-in-Err-clause-marks : goal.returns-in-Err-clause-marks
returns-in-Err-clause-marks c =
    let over = ended_if_err c.advance.result _ _ c.advance.ensures.err c.in-Err.is in
    Marks-ended _ _ c.loop.cpu _ _ _ c.loop.invariant over

pub returns-in-Err-clause-program : goal.returns-in-Err-clause-program
returns-in-Err-clause-program c =
    let same = rw c.in-Err.is at c.advance.ensures.same in
    rw same c.loop.invariant.same

pub returns-clause-marks : goal.returns-clause-marks
returns-clause-marks c = Marks-all _ _ _ _ _ _ c.loop.invariant (let fin = c.loop-test.false in let within = c.loop.auto.counter-end in omega (arith, fin, within))

pub returns-clause-program : goal.returns-clause-program
returns-clause-program c = c.loop.invariant.same
