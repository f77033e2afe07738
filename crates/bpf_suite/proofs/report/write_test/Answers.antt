use Rattle.counted_io.proofs.Appending.{Writes-none}
use Rattle.bpf_suite.proofs.report.write_test.Goals as goal

pub returns-then-passed : goal.returns-then-passed
returns-then-passed g c =
    rw c.if-passed.true
    (rw (
      c.verdict_word-word.ensures,
      c.if-passed.true,
      c.lead-dash.ensures,
      c.title-title.ensures,
      c.sections.ensures,
    ) at
    (c.put_all-told.ensures _ _ (Writes-none g.W.Write.contents c.args.writer.now _)))

pub returns-else-passed : goal.returns-else-passed
returns-else-passed g c =
    let told = rw (
      c.verdict_word-word.ensures,
      c.if-passed.false,
      c.lead-dash.ensures,
      c.title-title.ensures,
      c.sections.ensures,
    ) at
    (c.put_all-told.ensures _ _ (Writes-none g.W.Write.contents c.args.writer.now _)) in
    rw c.if-passed.false (c.put_diagnosis.ensures _ _ told)
