use Rattle.std.proofs.Common.{refl}
use Rattle.bpfdb_jobs.specs.Programs.{check_line}
use Rattle.bpfdb_jobs.proofs.Printing.{out-printed}
use Rattle.bpfdb_options.specs.declared.ask.Ask.TheVariants.{Check}
use Rattle.bpfdb_jobs.proofs.check.check_job.Goals as goal

pub returns-clause-does : goal.returns-clause-does
returns-clause-does g c =
    out-printed Check c.args.job.now (check_line c.args.loaded.now.program) c.write_size-written.result c.ended.result
    (c.args.loaded.now, c.requires.loaded, refl) c.write_size-written.ensures c.ended.ensures.ok c.ended.ensures.err
