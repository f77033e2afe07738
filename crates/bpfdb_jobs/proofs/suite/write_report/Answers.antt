use Rattle.std.proofs.Common.{◌≡◌, ℕ, List, ◌++◌, Option, Ok, length, ◌∙◌}
use Rattle.std.specs.Io.KnownBytes.{Appends}
use Rattle.bpf_suite.specs.Reports.{plan, tests_text}
use Rattle.bpf_suite.proofs.Reporting.{BreaksOff-behind, BreaksOff-first}
use Rattle.counted_io.proofs.Appending.{Appends-Appends}
use Rattle.counted_io.specs.Counted.{Tally}
use Rattle.counted_io.specs.Writing.{Writes}
use Rattle.bpfdb_jobs.proofs.suite.write_report.Goals as goal

-- a text written after another that was written
both : {T A E : Type 0} (contents : T → Option (List ℕ)) (a b c : Tally T) (v : A) (s t : List ℕ) → Appends (contents a.inner) (contents b.inner) s
    → b.failures ≡ a.failures → Writes {E = E} contents b c (Ok v) t → Writes {E = E} contents a c (Ok v) (s ++ t)
both contents a b c v s t p same q = record {
  ok = Appends-Appends (contents a.inner) (contents b.inner) (contents c.inner) s t p q.ok;
  same = q.same ∙ same;
  err = tt;
  fault = tt;
}

pub returns-in-Ok-run_tests-clause-ok : goal.returns-in-Ok-run_tests-clause-ok
returns-in-Ok-run_tests-clause-ok g c =
    let o = c.in-Ok-run_tests.ensures.ok in
    let ts = c.args.tests.now in
    let w = rw (c.in-Ok.is, c.len.ensures) at c.write_plan.ensures in (
      o.0,
      o.1,
      o.2,
      both g.W.Write.contents c.args.writer.now c.write_plan.new.writer c.run_tests.new.writer c.in-Ok-run_tests.passed (plan (length ts))
          (tests_text c.args.file.now 1 ts o.0) w.ok w.same o.3,
    )

pub returns-in-Err-run_tests-clause-err : goal.returns-in-Err-run_tests-clause-err
returns-in-Err-run_tests-clause-err g c =
    let w = rw (c.in-Ok.is, c.len.ensures) at c.write_plan.ensures in
    BreaksOff-behind g.W.Write.contents c.args.writer.now c.write_plan.new.writer c.run_tests.new.writer _ c.in-Err-run_tests.fault
    (plan (length c.args.tests.now)) c.args.file.now 1 c.args.tests.now w c.in-Err-run_tests.ensures.err

pub returns-in-Err-clause-err : goal.returns-in-Err-clause-err
returns-in-Err-clause-err g c =
    BreaksOff-first g.W.Write.contents c.args.writer.now c.write_plan.new.writer _ (plan (length c.args.tests.now)) c.args.file.now 1 c.args.tests.now
    (rw (c.in-Err.is, c.len.ensures) at c.write_plan.ensures)
