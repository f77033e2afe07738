use Rattle.std.proofs.Common.{Option, subst, sym}
use Rattle.bpfdb_jobs.specs.Shown.{EndsTest}
use Rattle.bpfdb_jobs.specs.Streams.{between}
use Rattle.bpfdb_options.specs.declared.test_part.TestPart.{TestPart}
use Rattle.bpfdb_jobs.proofs.suite.test_job.Goals as goal

pub returns-in-None-clause-does : goal.returns-in-None-clause-does
returns-in-None-clause-does g c =
    subst (λ (part : Option TestPart). EndsTest part c.args.ask.now c.args.job.now
    (between g.W.Write.contents g.E.Write.contents c.args.streams.now c.run_job.new.streams) c.run_job.result) (sym c.in-None.is) c.run_job.ensures.does

pub returns-in-Some-clause-does : goal.returns-in-Some-clause-does
returns-in-Some-clause-does g c =
    subst (λ (part : Option TestPart). EndsTest part c.args.ask.now c.args.job.now
    (between g.W.Write.contents g.E.Write.contents c.args.streams.now c.show_job.new.streams) c.show_job.result) (sym c.in-Some.is) c.show_job.ensures.does
