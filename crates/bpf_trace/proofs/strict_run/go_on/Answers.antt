use Rattle.std.proofs.Common.{◌∙◌, sym}
use Rattle.bpf_trace.proofs.Marking.{marks-quiet}
use Rattle.bpf_trace.proofs.Reading.{change-quiet, read-quiet}
use Rattle.bpf_trace.proofs.strict_run.go_on.Goals as goal

pub returns-then-not-may_touch-clause-read : goal.returns-then-not-may_touch-clause-read
returns-then-not-may_touch-clause-read c = λ before m. read-quiet before c.args.cpu.now (sym c.may_touch.ensures ∙ c.if-not-may_touch.true)

pub returns-then-not-may_touch-clause-marks : goal.returns-then-not-may_touch-clause-marks
returns-then-not-may_touch-clause-marks c = λ before m.
    marks-quiet before c.args.cpu.now c.args.marks.now m c.invariant.ensures (change-quiet c.args.cpu.now (sym c.may_touch.ensures ∙ c.if-not-may_touch.true))

pub returns-in-Some-clause-read : goal.returns-in-Some-clause-read
returns-in-Some-clause-read c = λ before m. sym c.in-Some.is ∙ c.first_read.ensures before m

pub returns-clause-read : goal.returns-clause-read
returns-clause-read c = λ before m. sym c.in-None.is ∙ c.first_read.ensures before m

pub returns-clause-marks : goal.returns-clause-marks
returns-clause-marks c = λ before m.
    c.note.ensures before c.args.cpu.now
    (record { is = c.invariant.ensures; slot = c.pc.ensures; change = c.look_on.ensures; next = c.commit.ensures }) m
