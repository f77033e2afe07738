use Rattle.std.proofs.Common.{append_assoc}
use Rattle.counted_io.proofs.Appending.{Writes-Err, Writes-Writes, Writes-text}
use Rattle.bpf_lines.specs.Objects.{program_table}
use Rattle.bpfdb_jobs.specs.Differences.{differences}
use Rattle.bpfdb_jobs.specs.Programs.{program_text}
use Rattle.bpfdb_jobs.proofs.load.write_object.Goals as goal

pub returns-in-Ok : goal.returns-in-Ok
returns-in-Ok g c =
    let told = c.put_differences.ensures _ _ c.write_program-begun.ensures in
    Writes-text g.W.Write.contents _ _ _ _ _ (Writes-Writes g.W.Write.contents _ _ _ _ _ _ _ _ c.in-Ok.is told c.write_table.ensures)
    (append_assoc (program_text c.args.loaded.now) (differences c.args.notes.now)
    (program_table c.args.job.now.target.packet c.args.words.now c.args.all.now))

pub returns-in-Err : goal.returns-in-Err
returns-in-Err g c =
    let told = c.put_differences.ensures _ _ c.write_program-begun.ensures in
    Writes-text g.W.Write.contents _ _ _ _ _ (Writes-Err g.W.Write.contents _ _ _ _ _ _ c.in-Err.is told)
    (append_assoc (program_text c.args.loaded.now) (differences c.args.notes.now)
    (program_table c.args.job.now.target.packet c.args.words.now c.args.all.now))
