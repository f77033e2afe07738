use Rattle.std.proofs.Common.{refl, subst, sym}
use Rattle.bpfdb_faults.specs.Streams.{stream}
use Rattle.bpfdb_jobs.specs.Done.{DoesPlain}
use Rattle.bpfdb_jobs.specs.Streams.{between}
use Rattle.bpfdb_options.specs.declared.ask.Ask.{Ask}
use Rattle.bpfdb_jobs.proofs.dispatch.file_tool.Goals as goal

pub returns-in-Asm-clause-does : goal.returns-in-Asm-clause-does
returns-in-Asm-clause-does g c =
    subst (λ (s : Ask). DoesPlain s c.args.job.now (stream g.R.Read.remaining c.args.reader.now c.args.reader.now)
    (between g.W.Write.contents g.E.Write.contents c.args.streams.now c.asm_job.new.streams) c.asm_job.result) (sym c.in-Asm.is) (refl, c.asm_job.ensures.does)

pub returns-in-Lines-clause-does : goal.returns-in-Lines-clause-does
returns-in-Lines-clause-does g c =
    subst (λ (s : Ask). DoesPlain s c.args.job.now (stream g.R.Read.remaining c.args.reader.now c.args.reader.now)
    (between g.W.Write.contents g.E.Write.contents c.args.streams.now c.lines_job.new.streams) c.lines_job.result) (sym c.in-Lines.is) (refl, c.lines_job.ensures.does)

pub returns-in-Link-clause-does : goal.returns-in-Link-clause-does
returns-in-Link-clause-does g c =
    subst (λ (s : Ask). DoesPlain s c.args.job.now (stream g.R.Read.remaining c.args.reader.now c.args.reader.now)
    (between g.W.Write.contents g.E.Write.contents c.args.streams.now c.link_job.new.streams) c.link_job.result) (sym c.in-Link.is) (refl, c.link_job.ensures.does)

pub returns-in-Test-clause-does : goal.returns-in-Test-clause-does
returns-in-Test-clause-does g c =
    subst (λ (s : Ask). DoesPlain s c.args.job.now (stream g.R.Read.remaining c.args.reader.now c.args.reader.now)
    (between g.W.Write.contents g.E.Write.contents c.args.streams.now c.test_job.new.streams) c.test_job.result) (sym c.in-Test.is) (refl, c.test_job.ensures.does)

pub returns-in-Batch-clause-does : goal.returns-in-Batch-clause-does
returns-in-Batch-clause-does g c =
    subst (λ (s : Ask). DoesPlain s c.args.job.now (stream g.R.Read.remaining c.args.reader.now c.batch_job.new.reader)
    (between g.W.Write.contents g.E.Write.contents c.args.streams.now c.batch_job.new.streams) c.batch_job.result) (sym c.in-Batch.is) c.batch_job.ensures.does
