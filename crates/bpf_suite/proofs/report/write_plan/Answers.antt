use Rattle.counted_io.proofs.Appending.{Writes-none}
use Rattle.bpf_suite.proofs.report.write_plan.Goals as goal

pub returns : goal.returns
returns g c = c.put_all.ensures _ _ (Writes-none g.W.Write.contents c.args.writer.now _)
