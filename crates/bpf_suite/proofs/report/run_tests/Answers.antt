use Rattle.bpf_suite.proofs.Reporting.{BreaksOff-nothing}
use Rattle.bpf_suite.proofs.report.run_tests.Goals as goal

pub returns-in-Ok-clause-ok : goal.returns-in-Ok-clause-ok
returns-in-Ok-clause-ok g c = rw (c.in-Ok.ensures, c.as_slice.ensures.value, c.tests.view_is) at c.run_each.ensures.ok

pub returns-in-Ok-clause-err : goal.returns-in-Ok-clause-err
returns-in-Ok-clause-err g c = rw (c.in-Ok.ensures, c.as_slice.ensures.value, c.tests.view_is) at c.run_each.ensures.err

pub returns-in-Err-clause-err : goal.returns-in-Err-clause-err
returns-in-Err-clause-err g c = BreaksOff-nothing g.W.Write.contents c.args.writer.now c.args.file.now c.args.first c.args.tests.now
