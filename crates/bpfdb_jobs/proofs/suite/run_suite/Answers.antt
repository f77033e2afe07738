use Rattle.std.proofs.Common.{length}
use Rattle.bpf_suite.specs.Reports.{plan}
use Rattle.bpf_suite.proofs.Reporting.{BreaksOff-last}
use Rattle.bpfdb_jobs.proofs.suite.run_suite.Goals as goal

pub returns-in-Err-flush-clause-err : goal.returns-in-Err-flush-clause-err
returns-in-Err-flush-clause-err g c =
    let o = c.in-Ok.ensures.ok in
    BreaksOff-last g.W.Write.contents c.args.writer.now c.write_report.new.writer c.flush.new.self c.in-Ok.passed (plan (length c.args.tests.now)) c.args.file.now 1 c.args.tests.now o.0 o.1 o.3
    c.flush.ensures.bytes (rw c.in-Err-flush.is at c.flush.ensures.fault)
