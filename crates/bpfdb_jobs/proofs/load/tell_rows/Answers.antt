use Rattle.std.proofs.Common.{◌++◌}
use Rattle.std.proofs.lemmas.List.{append-nil}
use Rattle.counted_io.proofs.Appending.{Writes-text}
use Rattle.bpfdb_jobs.specs.Programs.{program_text}
use Rattle.bpfdb_jobs.proofs.Printing.{out-printed}
use Rattle.bpfdb_options.specs.declared.ask.Ask.TheVariants.{Load}
use Rattle.bpfdb_jobs.proofs.load.tell_rows.Goals as goal

pub returns-clause-does : goal.returns-clause-does
returns-clause-does g c =
    let told = c.put-told.ensures _ _ c.write_program-begun.ensures in
    out-printed Load c.args.job.now (program_text c.args.loaded.now ++ c.args.rows.now) c.flush_after-written.result c.ended.result c.requires
    (Writes-text g.W.Write.contents _ _ _ _ _ (c.flush_after-written.ensures _ _ told) (append-nil _))
    c.ended.ensures.ok c.ended.ensures.err
